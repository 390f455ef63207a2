-- What a mirror has, by what it mirrors; and what mirrors nothing.
use Rattle.std.proofs.Common.{◌≡◌, arith, inl, refl}
use Rattle.vst_base.specs.Examples.{counter}
use Rattle.raft_safety.proofs.Mirroring.{first_mirror}
use Rattle.raft_safety.proofs.examples.worked_mirrors.Goals as goal

pub returns-clause-a_leader : goal.returns-clause-a_leader
returns-clause-a_leader c x m = m.role

pub returns-clause-a_follower : goal.returns-clause-a_follower
returns-clause-a_follower c x m = m.role

pub returns-clause-a_candidate : goal.returns-clause-a_candidate
returns-clause-a_candidate c x m = m.role

pub returns-clause-down : goal.returns-clause-down
returns-clause-down c x m = m.role

pub returns-clause-is_down : goal.returns-clause-is_down
returns-clause-is_down c x m = m.up

pub returns-clause-term : goal.returns-clause-term
returns-clause-term c x m = m.term

pub returns-clause-voted : goal.returns-clause-voted
returns-clause-voted c x m = m.voted

pub returns-clause-has_its_votes : goal.returns-clause-has_its_votes
returns-clause-has_its_votes c x m = m.votes 1

pub returns-clause-no_other_vote : goal.returns-clause-no_other_vote
returns-clause-no_other_vote c x m = m.votes 2

pub returns-clause-matched : goal.returns-clause-matched
returns-clause-matched c x m = m.matched 1

pub returns-clause-log : goal.returns-clause-log
returns-clause-log c x m = m.log

pub returns-clause-commit : goal.returns-clause-commit
returns-clause-commit c x m = m.commit

pub returns-clause-applied : goal.returns-clause-applied
returns-clause-applied c x m = m.applied

pub returns-clause-the_first_node : goal.returns-clause-the_first_node
returns-clause-the_first_node c = (first_mirror counter 3).node 0

pub returns-clause-the_first_world : goal.returns-clause-the_first_world
returns-clause-the_first_world c = first_mirror counter 3

pub returns-clause-not_the_first_world : goal.returns-clause-not_the_first_world
returns-clause-not_the_first_world c = λ m. let passed : 0 ≡ 1 = (m.node 1).term in omega (arith, passed)

pub returns-clause-not_without_packets : goal.returns-clause-not_without_packets
returns-clause-not_without_packets c = λ v e m. rw e at (m.sent _ (inl refl))
