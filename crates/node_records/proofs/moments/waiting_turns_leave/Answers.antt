use Rattle.node_records.proofs.Waiting.{waiting_leaves}
use Rattle.node_records.proofs.moments.waiting_turns_leave.Goals as goal

pub returns : goal.returns
returns g c = λ settings m. waiting_leaves settings m g.C.Wire.format g.O.Wire.format
