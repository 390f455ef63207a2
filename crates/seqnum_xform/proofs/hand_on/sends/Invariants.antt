use Rattle.std.proofs.Common.{◌≡◌, ◌+◌, ◌≤◌, ◌++◌, length}
use Rattle.seqnum_xform.specs.Numbering.{numbered_from}
use Rattle.seqnum_xform.proofs.hand_on.sends.Given as goal

abbrev pub invariant-loop-to : goal.invariant-loop-to
invariant-loop-to g l = record {
  sends : l.effects.sends ++ numbered_from l.next l.to-iterator.rest.items ≡ l.initial.effects.sends ++ numbered_from l.initial.next l.initial.to-iterator.rest.items;
  next : l.next + length l.to-iterator.rest.items ≡ l.initial.next + length l.initial.to-iterator.rest.items;
  room : length l.to-iterator.rest.items ≤ l.effects.send_places;
  outputs : l.effects.outputs ≡ l.initial.effects.outputs;
}
