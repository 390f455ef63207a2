use Rattle.std.proofs.Common.{◌≡◌, ◌++◌, take, All}
use Rattle.std.specs.List.{flat_map}
use Rattle.wire_messages.proofs.entries.put_each.Given as goal

-- the bytes so far are those of the values so far
abbrev pub invariant-loop-item : goal.invariant-loop-item
invariant-loop-item g l =
    (l.out.items ≡ l.fn.out.items ++ flat_map g.T.Wire.format.spell (take l.item-index l.items)) × All g.T.Wire.format.Fits (take l.item-index l.items)
