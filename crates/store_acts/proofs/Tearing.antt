-- One byte in each place that is pending, place after place.
use Rattle.std.proofs.Common.{◌≡◌, ℕ, ◌+◌, ◌<◌, List, [], ◌∷◌, ◌++◌, length, drop, get_or, refl, sym, ap, ◌∙◌, append_assoc, add-one, drop-cons, cond}
use Rattle.disk.specs.Disk.{Area, is_pending}
use Rattle.disk.specs.Images.{torn_from, torn}

-- the bytes up to this place with one more, and those that are left of what was read, are all of them
pub torn_more : (byte i x : ℕ) (area : Area) (so_far new : List ℕ) → i < length area.bytes →
    so_far ++ torn_from byte area i (drop i area.bytes) ≡ torn byte area → new ≡ so_far ++ x ∷ [] →
    x ≡ cond (is_pending area i) byte (get_or area.bytes i 0) →
    new ++ torn_from byte area (i + 1) (drop (i + 1) area.bytes) ≡ torn byte area
torn_more byte i x area so_far new h inv e f =
    ap (λ r. r ++ torn_from byte area (i + 1) (drop (i + 1) area.bytes)) e
    ∙ (append_assoc so_far (x ∷ []) (torn_from byte area (i + 1) (drop (i + 1) area.bytes))
    ∙ (ap (λ r. so_far ++ (r ∷ torn_from byte area (i + 1) (drop (i + 1) area.bytes))) f
    ∙ (ap (λ r. so_far ++ r) (sym next) ∙ inv)))
  where
    next : torn_from byte area i (drop i area.bytes) ≡ cond (is_pending area i) byte (get_or area.bytes i 0) ∷ torn_from byte area (i + 1) (drop (i + 1) area.bytes)
    next = rw (add-one, drop-cons area.bytes i 0) refl
