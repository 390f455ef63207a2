use Rattle.std.proofs.Common.{◌≡◌, ◌+◌, ◌<◌, ◌≤◌, ◌^◌, ◌++◌, length}
use Rattle.fifo_xform.specs.Fifo.{counted, numbered_by}
use Rattle.fifo_xform.specs.Peers.{numbered_packets}
use Rattle.fifo_xform.proofs.hand_on.sends.Given as goal

abbrev pub invariant-loop-to : goal.invariant-loop-to
invariant-loop-to g l = record {
  sends : l.effects.sends ++ numbered_by l.peers l.to-iterator.rest.items ≡ l.initial.effects.sends ++ numbered_by l.initial.peers l.initial.to-iterator.rest.items;
  peers : counted l.peers l.to-iterator.rest.items ≡ counted l.initial.peers l.initial.to-iterator.rest.items;
  fits : numbered_packets l.peers + length l.to-iterator.rest.items < 2 ^ 64;
  room : length l.to-iterator.rest.items ≤ l.effects.send_places;
  outputs : l.effects.outputs ≡ l.initial.effects.outputs;
}
