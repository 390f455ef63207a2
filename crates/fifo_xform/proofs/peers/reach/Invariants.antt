use Rattle.std.proofs.Common.{◌≡◌, ◌+◌, ◌-◌, length}
use Rattle.fifo_xform.specs.Peers.{Peer as Kept, peer_of, with_peer}
use Rattle.fifo_xform.proofs.peers.reach.Given as goal

abbrev pub invariant-loop-alloc : goal.invariant-loop-alloc
invariant-loop-alloc g l = record {
  kept : peer_of l.peers.items l.node ≡ peer_of l.initial.peers.items l.node;
  same : (p : Kept g.row.M.Denot) → with_peer l.peers.items l.node p ≡ with_peer l.initial.peers.items l.node p;
}

abbrev pub decreases-loop-alloc : goal.decreases-loop-alloc
decreases-loop-alloc g l = l.node + 1 - length l.peers.items
