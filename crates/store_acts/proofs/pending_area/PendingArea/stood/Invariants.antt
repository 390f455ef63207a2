use Rattle.std.proofs.Common.{◌≡◌, length, reverse}
use Rattle.store_acts.specs.PendingAreas.{all_undone, stood_of}
use Rattle.store_acts.proofs.pending_area.PendingArea.stood.Given as goal

-- what is left to take back leads from the bytes so far to the same bytes
abbrev pub invariant-loop-undo : goal.invariant-loop-undo
invariant-loop-undo l = all_undone (reverse l.undos.items) l.bytes.items ≡ stood_of l.fn.self

abbrev pub decreases-loop-undo : goal.decreases-loop-undo
decreases-loop-undo l = length l.undos.items
