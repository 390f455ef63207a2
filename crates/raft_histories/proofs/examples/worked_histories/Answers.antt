use Rattle.raft_histories.proofs.Worked.{empty_is_sound, its_entry_is_committed, no_greater_term, one_election_is_sound, one_holder_commits_nothing, one_vote_elects_nobody, what_a_voter_had_is_kept}
use Rattle.raft_histories.proofs.examples.worked_histories.Goals as goal

pub returns : goal.returns
returns g c = record {
  empty_is_sound = empty_is_sound _;
  one_election_is_sound = one_election_is_sound _;
  its_entry_is_committed = its_entry_is_committed _;
  one_holder_commits_nothing = one_holder_commits_nothing _;
  one_vote_elects_nobody = one_vote_elects_nobody _;
  no_greater_term = no_greater_term _;
  what_a_voter_had_is_kept = what_a_voter_had_is_kept _;
}
