use Rattle.raft_snapshots.proofs.PlainRaft.{plain_is_raft}
use Rattle.raft_snapshots.proofs.laws.plain_is_raft.Goals as goal

pub returns : goal.returns
returns g c = record { each_event = plain_is_raft _ _ _ }
