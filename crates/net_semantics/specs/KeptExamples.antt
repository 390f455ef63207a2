-- Packets and contents for worked rows.
use Rattle.std.specs.Prelude.{ℕ, List, length, Option, Some}
use Rattle.slab.specs.Slab.{Slab}
use Rattle.net_semantics.specs.declared.packets.Sent.{Sent}
use Rattle.net_semantics.specs.Shown.{Shown}

-- these contents, each in its place
abbrev pub in_places : List (Option ℕ) → Slab ℕ
in_places slots = record { slots = slots; vacant_key = length slots; capacity = length slots }

-- a packet from node 1 to node 0 with so many copies and its content in this place, and one that is shown with this content
abbrev pub sent_with : ℕ → ℕ → Sent
sent_with copies place = record { source = 1; destination = 0; copies = copies; place = place }

abbrev pub shown_so : ℕ → Option ℕ → Shown ℕ
shown_so copies content = record { source = 1; destination = 0; copies = copies; content = content }

-- a packet along this way with so many copies
abbrev pub shown_along : ℕ → ℕ → ℕ → Shown ℕ
shown_along source destination copies = record { source = source; destination = destination; copies = copies; content = Some 7 }
