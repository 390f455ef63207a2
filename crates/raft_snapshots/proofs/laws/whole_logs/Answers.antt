use Rattle.raft_snapshots.proofs.Plain.{whole_logs}
use Rattle.raft_snapshots.proofs.laws.whole_logs.Goals as goal

pub returns : goal.returns
returns g c = record { whole_logs = whole_logs _ }
