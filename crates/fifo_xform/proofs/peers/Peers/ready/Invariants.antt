use Rattle.std.proofs.Common.{◌≡◌, ◌-◌}
use Rattle.fifo_xform.specs.Peers.{ready, ready_among}
use Rattle.fifo_xform.proofs.peers.Peers.ready.Given as goal

abbrev pub invariant-loop-place : goal.invariant-loop-place
invariant-loop-place g l = ready_among (l.nodes - l.place) l.place l.self ≡ ready l.nodes l.self
