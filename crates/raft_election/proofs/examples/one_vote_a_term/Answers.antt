use Rattle.raft_election.proofs.Terms.{one_vote_a_term}
use Rattle.raft_election.proofs.examples.one_vote_a_term.Goals as goal

pub returns : goal.returns
returns c = one_vote_a_term
