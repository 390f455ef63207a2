-- A set has one mark and one list above it.
use Rattle.std.specs.Prelude.{◌≡◌, ◌≢◌, ℕ, zero, suc, ◌+◌, ◌<◌, ◌≤◌, true, false, List, [], ◌∷◌, Contains, length, refl}
use Rattle.std.specs.List.Sorted.{IsStrictlyIncreasing}
use Rattle.std.specs.Ordering.{nat_cmp}
use Rattle.std.specs.FinSet as set
use Rattle.std.specs.FinSet.{FinSet}
use Rattle.std.proofs.Common.{ap, arith, sym, ◌∙◌, get_or, inl, inr}
use Rattle.std.proofs.lemmas.Bool.{cases_lt}
use Rattle.std.proofs.lemmas.Grind.{get_or_default_zero}
use Rattle.number_set.specs.Marked.{IsMarked, greatest}
use Rattle.number_set.proofs.Rising.{rises}

-- no mark is below another
no_lower : (s : FinSet nat_cmp) (m n : ℕ) (xs ys : List ℕ) → IsMarked s m xs → IsMarked s n ys → n ≤ m
no_lower s m n xs ys a b = elim (cases_lt m n) [
  | inl lt ↦
      let there : set.contains s m ≡ true = b.below m lt in
      let fits : n ≤ greatest = b.fits in
      let missing : set.contains s m ≡ false = a.missing (omega arith) in
      absurd cc
  | inr le ↦ le
]

pub one-mark : (s : FinSet nat_cmp) (m n : ℕ) (xs ys : List ℕ) → IsMarked s m xs → IsMarked s n ys → m ≡ n
one-mark s m n xs ys a b = omega (arith, no_lower s m n xs ys a b, no_lower s n m ys xs b a)

-- ascending lists with the same numbers are one
first_least : (x : ℕ) (xs : List ℕ) (n : ℕ) → IsStrictlyIncreasing (x ∷ xs) → Contains (x ∷ xs) n → x ≤ n
first_least x xs n up in' =
    let here : get_or (x ∷ xs) in'.0 0 ≡ n = sym (get_or_default_zero (x ∷ xs) in'.0 n in'.1) ∙ in'.2 in
    omega (arith, rises (x ∷ xs) 0 in'.0 in'.0 up (omega arith) in'.1)

up-tail : (x : ℕ) (xs : List ℕ) → IsStrictlyIncreasing (x ∷ xs) → IsStrictlyIncreasing xs
up-tail x xs up k lt = let next : suc k + 1 ≡ suc (k + 1) = omega arith in omega (arith, up (suc k) (omega arith), ap (λ j. get_or (x ∷ xs) j 0) next)

rest-at : (x n : ℕ) (ys : List ℕ) → x ≢ n → (j : ℕ) → j < length (x ∷ ys) → get_or (x ∷ ys) j n ≡ n → Contains ys n
rest-at x n ys ne zero lt here = absurd (ne here)
rest-at x n ys ne (suc j) lt here = (j, omega arith, here)

rest-has : (x : ℕ) (xs ys : List ℕ) → IsStrictlyIncreasing (x ∷ xs) → ((n : ℕ) → Contains (x ∷ xs) n → Contains (x ∷ ys) n) → (n : ℕ) → Contains xs n → Contains ys n
rest-has x xs ys up to n in' =
    let there : Contains (x ∷ ys) n = to n (suc in'.0, omega (arith, in'.1), in'.2) in
    let rest : get_or xs in'.0 0 ≡ n = sym (get_or_default_zero xs in'.0 n in'.1) ∙ in'.2 in
    let past : get_or (x ∷ xs) 0 0 + suc in'.0 ≤ get_or (x ∷ xs) (suc in'.0) 0 = rises (x ∷ xs) 0 (suc in'.0) (suc in'.0) up (omega arith) (omega (arith, in'.1)) in
    let ne : x ≢ n = λ e. absurd (omega arith) in
    rest-at x n ys ne there.0 there.1 there.2

same-ascending : (xs ys : List ℕ) → IsStrictlyIncreasing xs → IsStrictlyIncreasing ys → ((n : ℕ) → Contains xs n → Contains ys n) → ((n : ℕ) → Contains ys n → Contains xs n) → xs ≡ ys
same-ascending [] [] u v to from = refl
same-ascending [] (y ∷ ys) u v to from = absurd (omega (arith, (from y (0, omega arith, refl)).1))
same-ascending (x ∷ xs) [] u v to from = absurd (omega (arith, (to x (0, omega arith, refl)).1))
same-ascending (x ∷ xs) (y ∷ ys) u v to from =
    let first : x ≡ y = omega (arith, first_least x xs y u (from y (0, omega arith, refl)), first_least y ys x v (to x (0, omega arith, refl))) in
    let rest : xs ≡ ys = same-ascending xs ys (up-tail x xs u) (up-tail y ys v) (rest-has x xs ys u (λ n in'. rw first (to n in'))) (rest-has y ys xs v (λ n in'. rw (← first) (from n in'))) in
    ap (λ zs. x ∷ zs) rest ∙ ap (λ z. z ∷ ys) first

pub one-list : (s : FinSet nat_cmp) (m n : ℕ) (xs ys : List ℕ) → IsMarked s m xs → IsMarked s n ys → xs ≡ ys
one-list s m n xs ys a b =
    let one : m ≡ n = one-mark s m n xs ys a b in
    same-ascending xs ys a.ascending b.ascending
    (λ k in'. let there = (a.listed k).0 in' in (b.listed k).1 (omega (arith, there.0), there.1))
    (λ k in'. let there = (b.listed k).0 in' in (a.listed k).1 (omega (arith, there.0), there.1))
