use Rattle.std.proofs.Common.{◌≡◌, ◌++◌, length, All}
use Rattle.std.specs.List.{flat_map}
use Rattle.lists.specs.Prefixes.{IsPrefix}
use Rattle.wire_fields.specs.Bytes.{number_bytes}
use Rattle.wire_fields.specs.Formats.{pair}
use Rattle.snap_state.proofs.pairs.put_pairs.Given as goal

-- with the bytes of the pairs that are left, all bytes are there
abbrev pub invariant-loop-key : goal.invariant-loop-key
invariant-loop-key g l =
    (goal.iterator-loop-key g).can_next l.key-iterator × (goal.iterator-loop-key g).is_finite l.key-iterator
    × (l.out.items ++ flat_map (pair g.K.Wire.format g.V.Wire.format).spell l.key-iterator
    ≡ l.fn.out.items ++ (number_bytes 4 (length l.tree.entries) ++ flat_map (pair g.K.Wire.format g.V.Wire.format).spell l.tree.entries))
    × (All (pair g.K.Wire.format g.V.Wire.format).Fits l.key-iterator → All (pair g.K.Wire.format g.V.Wire.format).Fits l.tree.entries)
    × IsPrefix l.fn.out.items l.out.items
