use Rattle.std.proofs.Common.{◌≡◌, length}
use Rattle.node_config.specs.Addresses.{are_distinct}
use Rattle.node_config.proofs.addresses.are_distinct.Given as goal

-- the addresses so far are none of those left, nor of one another
abbrev pub invariant-loop-left : goal.invariant-loop-left
invariant-loop-left l = are_distinct l.left ≡ are_distinct l.addresses

abbrev pub decreases-loop-left : goal.decreases-loop-left
decreases-loop-left l = length l.left
