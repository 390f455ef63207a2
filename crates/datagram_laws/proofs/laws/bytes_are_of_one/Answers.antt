use Rattle.datagram_laws.proofs.Reading.{bytes_are_of_one_output, bytes_are_of_one_packet}
use Rattle.datagram_laws.proofs.laws.bytes_are_of_one.Goals as goal

pub returns-clause-packets : goal.returns-clause-packets
returns-clause-packets g c = bytes_are_of_one_packet g.C.Wire.format g.O.Wire.format g.met.C.Wire.is_format g.met.O.Wire.is_format

pub returns-clause-outputs : goal.returns-clause-outputs
returns-clause-outputs g c = bytes_are_of_one_output g.C.Wire.format g.O.Wire.format g.met.C.Wire.is_format g.met.O.Wire.is_format
