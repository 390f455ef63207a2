-- Marks of sets that are written out.
use Rattle.std.specs.Prelude.{◌≡◌, ℕ, ◌<◌, ◌≤◌, ◌^◌, Bool, true, false, ◌||◌, List, [], ◌∷◌}
use Rattle.std.specs.Ordering.{nat_cmp}
use Rattle.std.specs.FinSet as set
use Rattle.std.specs.FinSet.{FinSet}
use Rattle.std.proofs.Common.{ap, arith, sym, ◌∙◌, eqb, ltb, inl, inr, refl}
use Rattle.std.proofs.lemmas.Bool.{cases_eq}
use Rattle.number_set.specs.Marked.{IsMarked, greatest}
use Rattle.number_set.specs.Members.{IsKept, IsPast, members, numbers_below}
use Rattle.number_set.proofs.Members.{contains-members, contains-numbers_below, eqb_sym, has, is-marked, one_below, same_numbers}

-- by the numbers that it has
pub by-numbers : (m : ℕ) (xs : List ℕ) (s : FinSet nat_cmp) → ((q : ℕ) → set.contains s q ≡ (ltb q m || has xs q)) → IsKept m xs → IsMarked s m xs
by-numbers m xs s each kept = is-marked m xs s (same_numbers (members m xs) s (λ q. contains-members m xs q ∙ sym (each q))) kept

pub kept-none : (m : ℕ) → m ≤ greatest → IsKept m []
kept-none m fits = record { fits = fits; ascending = λ k lt. absurd (omega arith); past = λ k lt. absurd (omega arith) }

pub kept-one : (m x : ℕ) → m ≤ greatest → IsPast m x → IsKept m (x ∷ [])
kept-one m x fits past = record {
  fits = fits;
  ascending = λ k lt. absurd (omega arith);
  past = λ k lt. let first : k ≡ 0 = omega arith in rw first past;
}

pub kept-two : (m x y : ℕ) → m ≤ greatest → m < x → x < y → IsKept m (x ∷ y ∷ [])
kept-two m x y fits lt up = record {
  fits = fits;
  ascending = λ k h. let first : k ≡ 0 = omega arith in rw first up;
  past = λ k h. elim (cases_eq k 0) [
    | inl first ↦ rw first (record { from = omega arith; above = λ _. lt })
    | inr later ↦ let second : k ≡ 1 = omega arith in rw second (record { from = omega arith; above = λ _. omega arith })
  ];
}

-- all numbers, and all but the greatest
or-last : (a b : Bool) → (a || b) ≡ (b || (a || false))
or-last true true = refl
or-last true false = refl
or-last false true = refl
or-last false false = refl

pub all-marked : IsMarked (numbers_below (2 ^ 64)) greatest (greatest ∷ [])
all-marked = by-numbers greatest (greatest ∷ []) (numbers_below (2 ^ 64)) (λ q.
    contains-numbers_below (2 ^ 64) q
    ∙ (sym (one_below q greatest) ∙ (or-last (eqb q greatest) (ltb q greatest) ∙ ap (λ b. ltb q greatest || (b || false)) (eqb_sym q greatest)))) (
    kept-one greatest greatest (omega arith) (record { from = omega arith; above = λ lt. absurd (omega arith) }))

or-nothing : (b : Bool) → b ≡ (b || false)
or-nothing true = refl
or-nothing false = refl

pub all_but_one-marked : IsMarked (numbers_below greatest) greatest []
all_but_one-marked = by-numbers greatest [] (numbers_below greatest) (λ q. contains-numbers_below greatest q ∙ or-nothing (ltb q greatest)) (kept-none greatest (omega arith))
