-- Which places are pending, as the code tests it.
use Rattle.std.proofs.Common.{◌≡◌, ℕ, ◌+◌, ◌-◌, ◌<◌, ◌≤◌, Bool, true, false, List, [], ◌∷◌, length, refl, ap, ◌∙◌, arith, ◌⊎◌, inl, inr, min, nat_le, nat_lt, ◌||◌, ◌&&◌}
use Rattle.std.specs.List.{list_any}
use Rattle.std.proofs.lemmas.Bool.{cases_lt, le-leb, lt-leb, lt-ltb, le-ltb}
use Rattle.disk.specs.Disk.{Area, least, is_within, is_pending}

or_none : (x : Bool) → x ≡ (x || false)
or_none true = refl
or_none false = refl

or_true : (x : Bool) → (x || true) ≡ true
or_true true = refl
or_true false = refl

or_swap : (x y z : Bool) → (x || (y || z)) ≡ (y || (x || z))
or_swap true true z = refl
or_swap true false z = refl
or_swap false true z = refl
or_swap false false z = refl

or_assoc : (x y z : Bool) → ((x || y) || z) ≡ (x || (y || z))
or_assoc true y z = refl
or_assoc false y z = refl

min_le : (a b i : ℕ) → nat_le (min a b) i ≡ (nat_le a i || nat_le b i)
min_le a b i = go (cases_lt i a) (cases_lt i b)
  where
    go : (i < a) ⊎ (a ≤ i) → (i < b) ⊎ (b ≤ i) → nat_le (min a b) i ≡ (nat_le a i || nat_le b i)
    go (inr h) k = rw (le-leb a i h, le-leb (min a b) i (omega arith)) refl
    go (inl h) (inr k) = rw (lt-leb a i h, le-leb b i k, le-leb (min a b) i (omega arith)) refl
    go (inl h) (inl k) = rw (lt-leb a i h, lt-leb b i k, lt-leb (min a b) i (omega arith)) refl

-- past the least length is past one of them
least_any : (n : ℕ) (ls : List ℕ) (i : ℕ) → nat_le (least n ls) i ≡ (nat_le n i || list_any (λ len. nat_le len i) ls)
least_any n [] i = or_none (nat_le n i)
least_any n (m ∷ ls) i =
    min_le m (least n ls) i
    ∙ (ap (λ b. nat_le m i || b) (least_any n ls i) ∙ or_swap (nat_le m i) (nat_le n i) (list_any (λ len. nat_le len i) ls))

in_range : (at n i : ℕ) → (nat_le at i && nat_lt i (at + n)) ≡ (nat_le at i && nat_lt (i - at) n)
in_range at n i = go (cases_lt i at) (cases_lt (i - at) n)
  where
    go : (i < at) ⊎ (at ≤ i) → (i - at < n) ⊎ (n ≤ i - at) → (nat_le at i && nat_lt i (at + n)) ≡ (nat_le at i && nat_lt (i - at) n)
    go (inl h) k = rw (lt-leb at i h) refl
    go (inr h) (inl k) = rw (lt-ltb i (at + n) (omega arith), lt-ltb (i - at) n k) refl
    go (inr h) (inr k) = rw (le-ltb i (at + n) (omega arith), le-ltb (i - at) n k) refl

pub within_any : (ranges : List (ℕ × ℕ)) (i : ℕ) →
    is_within ranges i ≡ list_any (λ range. nat_le range.0 i && nat_lt (i - range.0) range.1) ranges
within_any [] i = refl
within_any (range ∷ ranges) i =
    ap (λ b. b || is_within ranges i) (in_range range.0 range.1 i)
    ∙ ap (λ b. (nat_le range.0 i && nat_lt (i - range.0) range.1) || b) (within_any ranges i)

pub pending_any : (area : Area) (i : ℕ) →
    is_pending area i ≡ (nat_le (length area.bytes) i || (list_any (λ len. nat_le len i) area.lengths || is_within area.ranges i))
pending_any area i =
    ap (λ b. b || is_within area.ranges i) (least_any (length area.bytes) area.lengths i)
    ∙ or_assoc (nat_le (length area.bytes) i) (list_any (λ len. nat_le len i) area.lengths) (is_within area.ranges i)

pub past_the_end : (area : Area) (i : ℕ) → length area.bytes ≤ i → is_pending area i ≡ true
past_the_end area i h = pending_any area i ∙ rw (le-leb (length area.bytes) i h) refl

pub past_a_length : (area : Area) (i : ℕ) → list_any (λ len. nat_le len i) area.lengths ≡ true → is_pending area i ≡ true
past_a_length area i h = pending_any area i ∙ rw h (or_true (nat_le (length area.bytes) i))

pub in_a_range : (area : Area) (i : ℕ) → i < length area.bytes → list_any (λ len. nat_le len i) area.lengths ≡ false →
    is_pending area i ≡ list_any (λ range. nat_le range.0 i && nat_lt (i - range.0) range.1) area.ranges
in_a_range area i h k = pending_any area i ∙ (rw (lt-leb (length area.bytes) i h, k) refl ∙ within_any area.ranges i)
