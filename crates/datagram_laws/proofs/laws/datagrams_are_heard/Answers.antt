use Rattle.datagram_laws.proofs.Origins.{each_has_origin}
use Rattle.datagram_laws.proofs.Reading.{outputs_are_read, packets_are_heard}
use Rattle.datagram_laws.proofs.laws.datagrams_are_heard.Goals as goal

pub returns-clause-origins : goal.returns-clause-origins
returns-clause-origins g c = each_has_origin _ g.C.Wire.format g.O.Wire.format

pub returns-clause-packets : goal.returns-clause-packets
returns-clause-packets g c = packets_are_heard g.C.Wire.format g.O.Wire.format g.met.C.Wire.is_format g.met.O.Wire.is_format

pub returns-clause-outputs : goal.returns-clause-outputs
returns-clause-outputs g c = outputs_are_read g.C.Wire.format g.O.Wire.format g.met.C.Wire.is_format g.met.O.Wire.is_format
