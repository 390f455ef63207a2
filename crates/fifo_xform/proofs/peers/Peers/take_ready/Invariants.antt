use Rattle.std.proofs.Common.{◌≡◌, ◌-◌}
use Rattle.fifo_xform.specs.Peers.{ready, ready_among}
use Rattle.fifo_xform.proofs.peers.Peers.take_ready.Given as goal

abbrev pub invariant-loop-n : goal.invariant-loop-n
invariant-loop-n g l = record {
  unchanged : l.self ≡ l.initial.self;
  ready : ready_among (l.nodes - l.n) l.n l.initial.self ≡ ready l.nodes l.initial.self;
}
