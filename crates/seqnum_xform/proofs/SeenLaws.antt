-- What was seen, after one number more.
use Rattle.std.specs.Prelude.{◌≡◌, ◌≢◌, ◌⊎◌, ℕ, zero, suc, true, false, [], ◌∷◌, Option, Some, None, slice_get, unwrap_or, refl}
use Rattle.std.specs.FinSet as set
use Rattle.std.specs.FinSet.{FinSet}
use Rattle.std.specs.Ordering.{nat_cmp}
use Rattle.std.proofs.Common.{ap, ◌∙◌, eqb, inl, inr}
use Rattle.std.proofs.lemmas.Bool.{cases_eq, eq-eqb, ne_eqb}
use Rattle.number_set.specs.NumberSetLaws.{contains-more, contains-nothing}
use Rattle.seqnum_xform.specs.Numbering.{Seen, has_seen, is_in, seen_of, with_seen}

set-itself : (s : FinSet nat_cmp) (n : ℕ) → set.contains (set.insert s n) n ≡ true
set-itself s n = let same : eqb n n ≡ true = eq-eqb n n refl in contains-more s n n ∙ rw same refl

set-other : (s : FinSet nat_cmp) (n x : ℕ) → x ≢ n → set.contains (set.insert s n) x ≡ set.contains s x
set-other s n x ne = let other : eqb x n ≡ false = ne_eqb x n ne in contains-more s n x ∙ rw other refl

-- the number is seen of its sender
pub seen-itself : (ss : Seen) (a n : ℕ) → has_seen (with_seen ss a n) a n ≡ true
seen-itself [] zero n = set-itself set.empty n
seen-itself [] (suc a) n = seen-itself [] a n
seen-itself (s ∷ ss) zero n = set-itself s n
seen-itself (s ∷ ss) (suc a) n = seen-itself ss a n

-- no other number of it is
pub seen-other : (ss : Seen) (a n b x : ℕ) → (b ≡ a → x ≢ n) → has_seen (with_seen ss a n) b x ≡ has_seen ss b x
seen-other [] zero n zero x ne = set-other set.empty n x (ne refl) ∙ contains-nothing x
seen-other [] zero n (suc b) x ne = refl
seen-other [] (suc a) n zero x ne = contains-nothing x
seen-other [] (suc a) n (suc b) x ne = seen-other [] a n b x (λ e. ne (ap suc e))
seen-other (s ∷ ss) zero n zero x ne = set-other s n x (ne refl)
seen-other (s ∷ ss) zero n (suc b) x ne = refl
seen-other (s ∷ ss) (suc a) n zero x ne = refl
seen-other (s ∷ ss) (suc a) n (suc b) x ne = seen-other ss a n b x (λ e. ne (ap suc e))

-- all that were seen, and each by itself
one-of : (place : Option (FinSet nat_cmp)) (n : ℕ) → set.contains (unwrap_or place set.empty) n ≡ is_in place n
one-of None n = contains-nothing n
one-of (Some s) n = refl

pub seen_of-has : (ss : Seen) (a n : ℕ) → set.contains (seen_of ss a) n ≡ has_seen ss a n
seen_of-has ss a n = one-of (slice_get ss a) n

-- what is seen now is this number or was seen before
pub seen-cases : (ss : Seen) (a n b x : ℕ) → has_seen (with_seen ss a n) b x ≡ true → ((b ≡ a) × (x ≡ n)) ⊎ (has_seen ss b x ≡ true)
seen-cases ss a n b x e = elim (cases_eq b a) [
  | inl same ↦ elim (cases_eq x n) [
    | inl is ↦ inl (same, is)
    | inr ne ↦ inr (let other : has_seen (with_seen ss a n) b x ≡ has_seen ss b x = seen-other ss a n b x (λ _. ne) in cc)
  ]
  | inr ne ↦ inr (let other : has_seen (with_seen ss a n) b x ≡ has_seen ss b x = seen-other ss a n b x (λ same. absurd (ne same)) in cc)
]
