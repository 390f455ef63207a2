use Rattle.std.proofs.Common.{◌≡◌, ◌≤◌}
use Rattle.vst_base.specs.Elections as elections
use Rattle.raft_election.specs.Ballots as ballots
use Rattle.raft_election.proofs.votes.is_majority.Given as goal

abbrev pub invariant-loop-n : goal.invariant-loop-n
invariant-loop-n l = record {
  votes : l.votes ≡ l.fn.votes;
  counted : l.count ≡ elections.count (ballots.has_vote l.fn.votes) l.n;
  few : l.count ≤ l.n;
}
