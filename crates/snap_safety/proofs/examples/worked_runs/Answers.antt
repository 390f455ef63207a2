use Rattle.raft_clients.proofs.Lookups.{lookups}
use Rattle.snap_safety.proofs.Rows.{behind_allowed, behind_seen}
use Rattle.snap_safety.proofs.examples.worked_runs.Goals as goal

pub returns-clause-alone_seen : goal.returns-clause-alone_seen
returns-clause-alone_seen c = λ way. simp lookups

pub returns-clause-behind_allowed : goal.returns-clause-behind_allowed
returns-clause-behind_allowed c = behind_allowed

pub returns-clause-behind_seen : goal.returns-clause-behind_seen
returns-clause-behind_seen c = behind_seen
