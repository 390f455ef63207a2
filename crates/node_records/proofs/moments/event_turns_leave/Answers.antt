use Rattle.node_records.proofs.Leaving.{event_leaves}
use Rattle.node_records.proofs.moments.event_turns_leave.Goals as goal

pub returns : goal.returns
returns g c = λ settings m. event_leaves settings m g.C.Wire.format g.O.Wire.format
