use Rattle.datagram_laws.proofs.Staying.{events_have_bytes, nodes_keep_bytes, nodes_start_in_bytes, nodes_stay_in_bytes}
use Rattle.datagram_laws.proofs.laws.nodes_stay_in_bytes.Goals as goal

pub returns-clause-events : goal.returns-clause-events
returns-clause-events g c = events_have_bytes g.C.Wire.format g.met.C.Wire.is_format

pub returns-clause-starts : goal.returns-clause-starts
returns-clause-starts g c = nodes_start_in_bytes _ g.C.Wire.format g.O.Wire.format

pub returns-clause-stays : goal.returns-clause-stays
returns-clause-stays g c = nodes_stay_in_bytes g.C.Wire.format g.met.C.Commands.short g.O.Wire.format

pub returns-clause-keeps : goal.returns-clause-keeps
returns-clause-keeps g c = nodes_keep_bytes _ g.C.Wire.format
