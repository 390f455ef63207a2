use Rattle.std.proofs.Common.{◌≡◌, ◌≤◌, ◌++◌, length}
use Rattle.drawn_schedules.proofs.hand_on.send_all.Given as goal

abbrev pub invariant-loop-to : goal.invariant-loop-to
invariant-loop-to g l = record {
  sends : l.effects.sends ++ l.to-iterator.rest.items ≡ l.initial.effects.sends ++ l.initial.to-iterator.rest.items;
  room : length l.to-iterator.rest.items ≤ l.effects.send_places;
  outputs : l.effects.outputs ≡ l.initial.effects.outputs;
}
