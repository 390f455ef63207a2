use Rattle.datagram_laws.proofs.Reading.{outputs_are_no_events, packets_are_taken_as_sent, what_is_heard_was_said}
use Rattle.datagram_laws.proofs.laws.what_is_heard_was_said.Goals as goal

pub returns-clause-packets : goal.returns-clause-packets
returns-clause-packets g c = packets_are_taken_as_sent g.C.Wire.format g.O.Wire.format g.met.C.Wire.is_format g.met.O.Wire.is_format

pub returns-clause-outputs : goal.returns-clause-outputs
returns-clause-outputs g c = outputs_are_no_events g.C.Wire.format g.O.Wire.format g.met.C.Wire.is_format g.met.O.Wire.is_format

pub returns-clause-said : goal.returns-clause-said
returns-clause-said g c = what_is_heard_was_said g.C.Wire.format g.O.Wire.format g.met.C.Wire.is_format g.met.O.Wire.is_format _
