use Rattle.raft_free.proofs.Origins.{nothing_invented}
use Rattle.raft_free.proofs.safety.entries_are_proposed.Goals as goal

pub returns : goal.returns
returns g c = nothing_invented _
