use Rattle.raft_election.proofs.Sets.{votes_are_sets}
use Rattle.raft_election.proofs.examples.votes_are_sets.Goals as goal

pub returns : goal.returns
returns c = votes_are_sets
