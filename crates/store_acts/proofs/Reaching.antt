-- Which places are pending, as the code tests it.
use Rattle.std.proofs.Common.{◌≡◌, ℕ, ◌+◌, ◌-◌, ◌<◌, ◌≤◌, Bool, true, false, List, [], ◌∷◌, map, reverse, Option, Some, None, refl, sym, ap, ◌∙◌, arith, ◌⊎◌, inl, inr, min, nat_le, nat_lt, ◌||◌, ◌&&◌}
use Rattle.std.specs.List.{list_any}
use Rattle.std.proofs.lemmas.Bool.{cases_lt, le-leb, lt-leb, lt-ltb, le-ltb}
use Rattle.std.proofs.lemmas.List.Sorted.{IsPermutation-reverse, list_any-IsPermutation}
use Rattle.disk.specs.Disk.{least, is_within}
use Rattle.store_acts.specs.PendingAreas.{ranges_of, reaches, with_range, wrote_at}
use Rattle.store_acts.specs.declared.pending_area.Undo.{Undo}

min_le : (a b i : ℕ) → nat_le (min a b) i ≡ (nat_le a i || nat_le b i)
min_le a b i = go (cases_lt i a) (cases_lt i b)
  where
    go : (i < a) ⊎ (a ≤ i) → (i < b) ⊎ (b ≤ i) → nat_le (min a b) i ≡ (nat_le a i || nat_le b i)
    go (inr h) k = rw (le-leb a i h, le-leb (min a b) i (omega arith)) refl
    go (inl h) (inr k) = rw (lt-leb a i h, le-leb b i k, le-leb (min a b) i (omega arith)) refl
    go (inl h) (inl k) = rw (lt-leb a i h, lt-leb b i k, lt-leb (min a b) i (omega arith)) refl

within : (at : ℕ) (wrote : Option ℕ) (ranges : List (ℕ × ℕ)) (i : ℕ) → is_within (with_range at wrote ranges) i ≡ (wrote_at at wrote i || is_within ranges i)
within at None ranges i = refl
within at (Some n) ranges i = refl

-- of four tests in two orders
swapped : (m l r w n any : Bool) → (l || w) ≡ (n || any) → ((m || l) || (r || w)) ≡ (n || ((m || r) || any))
swapped true l r w true any e = refl
swapped true l r w false any e = refl
swapped false true r w true any e = refl
swapped false true true w false any e = refl
swapped false true false w false any e = e
swapped false false true w true any e = refl
swapped false false true w false any e = refl
swapped false false false w n any e = e

-- past the least length or in a range is past the end, or where one of the acts reaches
pub reached : (n : ℕ) (undos : List Undo) (i : ℕ) →
    (nat_le (least n (map (λ (undo : Undo). undo.len) undos)) i || is_within (ranges_of undos) i) ≡ (nat_le n i || list_any (λ undo. reaches undo i) undos)
reached n [] i = refl
reached n (undo ∷ undos) i =
    ap (λ b. b || is_within (ranges_of (undo ∷ undos)) i) (min_le undo.len (least n (map (λ (u : Undo). u.len) undos)) i)
    ∙ (ap (λ b. (nat_le undo.len i || nat_le (least n (map (λ (u : Undo). u.len) undos)) i) || b) (within undo.at undo.wrote (ranges_of undos) i)
    ∙ swapped (nat_le undo.len i) (nat_le (least n (map (λ (u : Undo). u.len) undos)) i) (wrote_at undo.at undo.wrote i) (is_within (ranges_of undos) i)
    (nat_le n i) (list_any (λ u. reaches u i) undos) (reached n undos i))

pub past_the_end : (n : ℕ) (undos : List Undo) (i : ℕ) → n ≤ i →
    (nat_le (least n (map (λ (undo : Undo). undo.len) undos)) i || is_within (ranges_of undos) i) ≡ true
past_the_end n undos i h = reached n undos i ∙ rw (le-leb n i h) refl

pub before_the_end : (n : ℕ) (undos : List Undo) (i : ℕ) → i < n →
    (nat_le (least n (map (λ (undo : Undo). undo.len) (reverse undos))) i || is_within (ranges_of (reverse undos)) i)
    ≡ list_any (λ undo. reaches undo i) undos
before_the_end n undos i h =
    reached n (reverse undos) i
    ∙ rw (lt-leb n i h) (sym (list_any-IsPermutation (λ undo. reaches undo i) undos (reverse undos) (IsPermutation-reverse undos)))

-- in a range, by the place in it
pub in_range : (at n i : ℕ) → (nat_le at i && nat_lt i (at + n)) ≡ (nat_le at i && nat_lt (i - at) n)
in_range at n i = go (cases_lt i at) (cases_lt (i - at) n)
  where
    go : (i < at) ⊎ (at ≤ i) → (i - at < n) ⊎ (n ≤ i - at) → (nat_le at i && nat_lt i (at + n)) ≡ (nat_le at i && nat_lt (i - at) n)
    go (inl h) k = rw (lt-leb at i h) refl
    go (inr h) (inl k) = rw (lt-ltb i (at + n) (omega arith), lt-ltb (i - at) n k) refl
    go (inr h) (inr k) = rw (le-ltb i (at + n) (omega arith), le-ltb (i - at) n k) refl
