-- What a network holds of packets that are bytes.
use Rattle.std.specs.Prelude.{◌≡◌, ℕ, ◌<◌, List, Option, None, Some}
use Rattle.net_semantics.specs.PacketViews.{Shown}
use Rattle.net_semantics.specs.Worlds.{Packet}
use Rattle.vst_base.specs.declared.stack.StackId.{StackId}
use Rattle.wire_fields.specs.Formats.{Format}
use Rattle.wired.specs.Wiring.{no_name, packet}

-- what is held of a packet: nothing of one that was never sent
abbrev pub held_content : {N : Type 0} → Option (Shown N) → Option N
held_content None = None
held_content (Some p) = p.content

-- while a copy is in flight, the bytes of its message between its ends, of this stack, under the name of sixteen bytes 0; and nothing
-- once none is
abbrev pub IsCarried : {M : Type 0} → Format M → StackId → Option (List ℕ) → Option (Packet M) → Type 0
IsCarried f stack held None = held ≡ None
IsCarried f stack held (Some p) =
    (0 < p.copies → held ≡ Some (packet f stack no_name p.source p.destination p.content)) × (p.copies ≡ 0 → held ≡ None)
