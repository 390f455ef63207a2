use Rattle.std.proofs.Common.{◌≡◌, ◌≤◌, ◌++◌, length}
use Rattle.wired.specs.Wiring.{sent}
use Rattle.wired.proofs.hand_on.sends.Given as goal

abbrev pub invariant-loop-to : goal.invariant-loop-to
invariant-loop-to g l = record {
  sends : l.effects.sends ++ sent g.M.Wire.format l.cluster.stack l.cluster.name l.from l.to-iterator.rest.items
      ≡ l.initial.effects.sends ++ sent g.M.Wire.format l.cluster.stack l.cluster.name l.from l.initial.to-iterator.rest.items;
  room : length l.to-iterator.rest.items ≤ l.effects.send_places;
  outputs : l.effects.outputs ≡ l.initial.effects.outputs;
}
