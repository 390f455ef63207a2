use Rattle.std.proofs.Common.{◌≡◌, ◌++◌, true, length}
use Rattle.std.specs.FinMap.{is_sorted}
use Rattle.snap_state.proofs.pairs.tree_of.Given as goal

-- the tree has the pairs that were taken from the end, in their order
abbrev pub invariant-loop-key : goal.invariant-loop-key
invariant-loop-key g l = (l.fn.items.items ≡ l.items.items ++ l.tree.entries) × (is_sorted g.K.Ord.cmp l.tree.entries ≡ true)

abbrev pub decreases-loop-key : goal.decreases-loop-key
decreases-loop-key g l = length l.items.items
