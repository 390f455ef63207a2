use Rattle.std.proofs.Common.{◌≡◌, ◌++◌, map}
use Rattle.std.specs.Prelude.{is_some}
use Rattle.net_semantics.specs.Held.{held_sent}
use Rattle.net_semantics.specs.Order.{LanesFollow, all_ends}
use Rattle.net_semantics.proofs.events.send_packets.Given as goal

abbrev pub invariant-loop-destination : goal.invariant-loop-destination
invariant-loop-destination g l =
    (l.packets ≡ l.initial.packets ++ map (held_sent l.node) l.yielded)
    × (is_some l.lanes ≡ is_some l.initial.lanes)
    × (LanesFollow l.initial.lanes (all_ends l.initial.packets) → LanesFollow l.lanes (all_ends l.packets))
