use Rattle.raft_histories.proofs.Accepting.{accepted_is_taken}
use Rattle.raft_histories.proofs.keeping.accepted_logs.Goals as goal

pub returns : goal.returns
returns g c = accepted_is_taken _
