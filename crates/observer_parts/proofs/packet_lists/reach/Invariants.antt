use Rattle.std.proofs.Common.{◌≡◌, ℕ, ◌+◌, ◌-◌, length, map}
use Rattle.observer_parts.specs.PacketLists.{list_at}
use Rattle.observer_parts.proofs.packet_lists.reach.Given as goal

abbrev pub invariant-loop-alloc : goal.invariant-loop-alloc
invariant-loop-alloc l = (j : ℕ) → list_at (map (λ x. x.items) l.lists.items) j ≡ list_at (map (λ x. x.items) l.initial.lists.items) j

abbrev pub decreases-loop-alloc : goal.decreases-loop-alloc
decreases-loop-alloc l = l.list + 1 - length l.lists.items
