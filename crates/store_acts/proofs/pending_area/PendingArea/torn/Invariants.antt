use Rattle.std.proofs.Common.{◌≡◌, ◌++◌, drop}
use Rattle.disk.specs.Images.{torn_from, torn}
use Rattle.store_acts.specs.PendingAreas.{area_of}
use Rattle.store_acts.proofs.pending_area.PendingArea.torn.Given as goal

-- the bytes so far, and those that are left, are all of them
abbrev pub invariant-loop-i : goal.invariant-loop-i
invariant-loop-i l =
    l.torn.items ++ torn_from l.byte (area_of l.self) l.i (drop l.i l.self.bytes.items) ≡ torn l.byte (area_of l.self)
