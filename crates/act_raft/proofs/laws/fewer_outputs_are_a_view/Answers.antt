use Rattle.act_raft.proofs.Fewer.{fewer_outputs_are_a_view}
use Rattle.act_raft.proofs.laws.fewer_outputs_are_a_view.Goals as goal

pub returns : goal.returns
returns g c = fewer_outputs_are_a_view _ _
