-- What is kept, as entries by number, the newest first.
use Rattle.std.specs.Prelude.{ℕ, Bool, false, ◌==◌, List, map, reverse, Option, Some, None}
use Rattle.std.specs.Borrow.{Bor}
use Rattle.retry_xform.specs.Keeping.{Kept}

module _ {M : Type 0} where
  abbrev pub as_kept : ℕ × (ℕ × M) → Kept M
  as_kept e = record { number = e.0; destination = e.1.0; content = e.1.1 }

  abbrev pub all_kept : List (ℕ × (ℕ × M)) → List (Kept M)
  all_kept es = reverse (map as_kept es)

  -- a packet whose content is lent
  abbrev pub shown : ℕ × ℕ × Bor M → Kept M
  shown r = record { number = r.0; destination = r.1; content = r.2.now }

  -- whether the entry that was found, if one was, goes to this node
  abbrev pub goes_to : ℕ → Option (ℕ × M) → Bool
  goes_to from None = false
  goes_to from (Some v) = v.0 == from
