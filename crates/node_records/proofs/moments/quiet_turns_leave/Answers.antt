use Rattle.node_records.proofs.Leaving.{quiet_leaves}
use Rattle.node_records.proofs.moments.quiet_turns_leave.Goals as goal

pub returns : goal.returns
returns g c = λ settings m. quiet_leaves settings m g.C.Wire.format g.O.Wire.format
