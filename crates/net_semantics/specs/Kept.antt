-- Packets as `Packets` holds them: the contents of those in flight stand apart, each in a place of its own.
use Rattle.std.specs.Prelude.{◌≡◌, ℕ, ◌<◌, ◌==◌, List, map, Option, Some, None, IsSome, if◌then◌else◌, slice_get}
use Rattle.slab.specs.Slab.{Slab, get, slab_len}
use Rattle.net_semantics.specs.declared.packets.Sent.{Sent}
use Rattle.net_semantics.specs.Shown.{Shown}
use Rattle.net_semantics.specs.Held.{held_count}

module _ {M : Type 0} where
  -- a packet as it is shown with so many copies and this content
  abbrev pub shown_as : Sent → ℕ → Option M → Shown M
  shown_as s copies content = record { source = s.source; destination = s.destination; copies = copies; content = content }

  -- the content of a packet with so many copies, where this stands in its place
  abbrev pub content_of : ℕ → Option M → Option M
  content_of copies content = if copies == 0 then None else content

  -- packets as they are shown, where these are the contents in flight
  abbrev pub shown_with : Slab M → Sent → Shown M
  shown_with contents s = shown_as s s.copies (content_of s.copies (get contents s.place))

  abbrev pub shown_all : Slab M → List Sent → List (Shown M)
  shown_all contents sent = map (shown_with contents) sent

  -- each packet in flight has a content, no two of them have it in the same place, and there is no other content
  pub record IsKept (sent : List Sent) (contents : Slab M) : Type 0 where
    pub counted : slab_len contents ≡ held_count (shown_all contents sent)
    pub there : (k : ℕ) (s : Sent) → slice_get sent k ≡ Some s → 0 < s.copies → IsSome (get contents s.place)
    pub apart : (j k : ℕ) (s t : Sent) → slice_get sent j ≡ Some s → slice_get sent k ≡ Some t
        → 0 < s.copies → 0 < t.copies → s.place ≡ t.place → j ≡ k
