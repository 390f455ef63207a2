-- Each side of a fork has fewer packets than the fork.
use Rattle.std.specs.Prelude.{◌≤◌, max, length}
use Rattle.std.proofs.Common.{arith, length-append}
use Rattle.flight_index.specs.declared.tree.Branch.{Branch}
use Rattle.flight_index.specs.declared.tree.Branch.TheVariants.{Page, Fork}
use Rattle.flight_index.specs.declared.tree.Tree.TheDeep.{deep-Branch}
use Rattle.flight_index.specs.Trees.{packets_of, HasPackets}

-- no side is deeper than the branch has packets
pub depth_le-length-packets : (b : Branch) → HasPackets b → max (deep-Branch b) 0 ≤ length (packets_of b)
depth_le-length-packets (Page ps) some = omega arith
depth_le-length-packets (Fork l r) some = omega (arith, length-append l.value r.value, some.0, some.1)
