use Rattle.std.proofs.Common.{◌-◌, length}
use Rattle.raft_commit.specs.Peers.{matched_of}
use Rattle.raft_commit.proofs.Advancing.{Falling}
use Rattle.raft_commit.proofs.commit.advance.Given as goal

abbrev pub invariant-loop-index : goal.invariant-loop-index
invariant-loop-index g l = Falling (length l.peers) l.fn.me (matched_of l.peers) l.entries l.term l.commit l.index

abbrev pub decreases-loop-index : goal.decreases-loop-index
decreases-loop-index g l = l.index - l.commit
