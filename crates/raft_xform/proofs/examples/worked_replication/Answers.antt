use Rattle.raft_clients.proofs.Lookups.{lookups}
use Rattle.raft_xform.proofs.examples.worked_replication.Goals as goal

pub returns-clause-committed : goal.returns-clause-committed
returns-clause-committed c = simp lookups

pub returns-clause-applied_without_a_reply : goal.returns-clause-applied_without_a_reply
returns-clause-applied_without_a_reply c = simp lookups

pub returns-clause-at_once_where_alone : goal.returns-clause-at_once_where_alone
returns-clause-at_once_where_alone c = simp lookups

pub returns-clause-asked_again : goal.returns-clause-asked_again
returns-clause-asked_again c = simp lookups

pub returns-clause-two_at_once : goal.returns-clause-two_at_once
returns-clause-two_at_once c = simp lookups

pub returns-clause-committed_as_far_as_taken : goal.returns-clause-committed_as_far_as_taken
returns-clause-committed_as_far_as_taken c = simp lookups

pub returns-clause-rest_is_sent_with_the_commit : goal.returns-clause-rest_is_sent_with_the_commit
returns-clause-rest_is_sent_with_the_commit c = simp lookups
