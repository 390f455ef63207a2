-- What a branch of the tree holds.
use Rattle.std.specs.Prelude.{ℕ, ◌<◌, List, ◌++◌, length, Option}
use Rattle.flight_index.specs.declared.tree.Branch.{Branch}
use Rattle.flight_index.specs.declared.tree.Branch.TheVariants.{Page, Fork}

-- the packets in order
abbrev pub packets_of : Branch → List (Option ℕ)
packets_of (Page ps) = ps.items
packets_of (Fork l r) = l.value ++ r.value

-- no tree in it is empty
abbrev pub HasPackets : Branch → Type 0
HasPackets (Page ps) = 0 < length ps.items
HasPackets (Fork l r) = (0 < length l.value) × (0 < length r.value)
