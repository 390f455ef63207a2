use Rattle.raft_clients.proofs.Lookups.{lookups}
use Rattle.raft_xform.proofs.examples.worked_leaders.Goals as goal

pub returns-clause-alone_with_a_log : goal.returns-clause-alone_with_a_log
returns-clause-alone_with_a_log c = simp lookups

pub returns-clause-with_all_before_it : goal.returns-clause-with_all_before_it
returns-clause-with_all_before_it c = simp lookups
