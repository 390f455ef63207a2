use Rattle.std.proofs.Common.{◌≡◌, ◌≤◌}
use Rattle.vst_base.specs.Elections as elections
use Rattle.raft_commit.specs.Peers.{matched_of}
use Rattle.raft_commit.proofs.commit.is_held.Given as goal

abbrev pub invariant-loop-n : goal.invariant-loop-n
invariant-loop-n l = record {
  counted : l.count ≡ elections.count (elections.holders l.me (matched_of l.peers) l.index) l.n;
  few : l.count ≤ l.n;
}
