-- Packets as a `World` holds them: the content of one goes with its last copy.
use Rattle.std.specs.Prelude.{ℕ, nat_lt, ◌+◌, ◌-◌, ◌==◌, List, count_by, Option, Some, None, if◌then◌else◌}
use Rattle.net_semantics.specs.PacketViews.{Shown}

-- a packet that was just sent
abbrev pub held_sent : {M : Type 0} → ℕ → ℕ × M → Shown M
held_sent n p = record { source = n; destination = p.0; copies = 1; content = Some p.1 }

abbrev pub held_more : {M : Type 0} → Shown M → Shown M
held_more p = record { source = p.source; destination = p.destination; copies = p.copies + 1; content = p.content }

abbrev pub held_less : {M : Type 0} → Shown M → Shown M
held_less p = record { source = p.source; destination = p.destination; copies = p.copies - 1; content = if p.copies - 1 == 0 then None else p.content }

abbrev pub held_copies : {M : Type 0} → Option (Shown M) → ℕ
held_copies None = 0
held_copies (Some p) = p.copies

abbrev pub held_ends : {M : Type 0} → Option (Shown M) → Option (ℕ × ℕ)
held_ends None = None
held_ends (Some p) = Some (p.source, p.destination)

-- how many of these have a copy in flight
abbrev pub held_count : {M : Type 0} → List (Shown M) → ℕ
held_count ps = count_by (λ p. nat_lt 0 p.copies) ps
