use Rattle.raft_free.proofs.Refusals.{matches_below_commit, no_committed_conflict, no_rival_appends}
use Rattle.raft_free.proofs.safety.refusals_never_come.Goals as goal

pub returns : goal.returns
returns g c = record {
  no_rival_appends = no_rival_appends _;
  no_committed_conflict = no_committed_conflict _;
  matches_below_commit = matches_below_commit _;
}
