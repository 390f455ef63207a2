use Rattle.raft_histories.proofs.Completing.{committed_agree, majority_is_kept}
use Rattle.raft_histories.proofs.keeping.committed_logs.Goals as goal

pub returns : goal.returns
returns g c = record { kept = majority_is_kept _; agree = committed_agree _ }
