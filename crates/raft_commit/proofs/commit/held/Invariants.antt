use Rattle.std.proofs.Common.{length}
use Rattle.raft_commit.specs.Peers.{matched_of}
use Rattle.raft_commit.proofs.Holding.{Best}
use Rattle.raft_commit.proofs.commit.held.Given as goal

abbrev pub invariant-loop-peer : goal.invariant-loop-peer
invariant-loop-peer l = Best (length l.peers) l.me (matched_of l.peers) l.len l.peer-index l.most
