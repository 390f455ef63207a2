-- The order of packets that go from one node to another, as they are held.
use Rattle.std.specs.Prelude.{◌≡◌, ℕ, ◌<◌, List, map, Option, IfSome, slice_get}
use Rattle.lanes.specs.Lanes.{Follows, LanesView}
use Rattle.net_semantics.specs.PacketViews.{Shown}
use Rattle.net_semantics.specs.Held.{held_copies, held_ends}

module _ {M : Type 0} where
  -- packet j of these was sent before packet k, from the same node to the same, and has a copy in flight
  pub record IsAhead (ps : List (Shown M)) (j k : ℕ) : Type 0 where
    pub before : j < k
    pub same : held_ends (slice_get ps j) ≡ held_ends (slice_get ps k)
    pub copy : 0 < held_copies (slice_get ps j)

  -- none is ahead of packet k
  abbrev pub IsFirst : List (Shown M) → ℕ → Type 0
  IsFirst ps k = (j : ℕ) → ¬ IsAhead ps j k

  -- where one packet is ahead of another, that one is in flight too: so it stays where only the first of a lane is delivered
  abbrev pub IsInOrder : List (Shown M) → Type 0
  IsInOrder ps = (j k : ℕ) → IsAhead ps j k → 0 < held_copies (slice_get ps k)

  -- the ends of packets, source and destination
  abbrev pub all_ends : List (Shown M) → List (ℕ × ℕ)
  all_ends ps = map (λ p. (p.source, p.destination)) ps

-- the lanes, where they are kept, follow packets with these ends
abbrev pub LanesFollow : Option LanesView → List (ℕ × ℕ) → Type 0
LanesFollow lanes es = IfSome lanes (λ l. Follows l es)
