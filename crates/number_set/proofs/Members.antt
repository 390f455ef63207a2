-- The set that a mark and a list stand for.
use Rattle.std.specs.Prelude.{◌≡◌, ◌≢◌, ℕ, zero, suc, ◌+◌, ◌<◌, ◌≤◌, Bool, true, false, ◌||◌, ◌==◌, List, [], ◌∷◌, Result, Ok, Err, IfOk, IfErr, is_ok, Contains, length, take, drop, insert, refl}
use Rattle.std.specs.List.{list_any}
use Rattle.std.specs.Ordering.{nat_cmp}
use Rattle.std.specs.Cmp.{nat_cmp_total}
use Rattle.std.specs.FinSet as set
use Rattle.std.specs.FinSet.{FinSet, contains-from_list_nat, contains-union, nat_cmp-IsAntisymmetric, same_set}
use Rattle.std.proofs.Common.{ap, arith, sym, ◌∙◌, get_or, eqb, ltb, inl, inr}
use Rattle.std.proofs.lemmas.Bool.{cases_lt, cases_eq, eq-eqb, eqb-true, lt-ltb, ne_eqb}
use Rattle.std.proofs.lemmas.Bool.Decides.{nat_tests}
use Rattle.std.proofs.lemmas.Grind.{get_or_default_zero}
use Rattle.std.proofs.lemmas.List.{take-append-drop}
use Rattle.std.proofs.lemmas.List.Folds.{list_any-append, list_any_at}
use Rattle.number_set.specs.Marked.{IsMarked}
use Rattle.number_set.specs.Members.{GoesTo, IsKept, members, numbers_below}
use Rattle.number_set.specs.NumberSetLaws.{contains-more, contains-nothing}

-- whether a list has a number
abbrev pub has : List ℕ → ℕ → Bool
has xs q = list_any (λ y. y == q) xs

pub same_numbers : (s t : FinSet nat_cmp) → ((q : ℕ) → set.contains s q ≡ set.contains t q) → s ≡ t
same_numbers = same_set nat_cmp_total nat_cmp-IsAntisymmetric

-- one more number below a mark
pub one_below : (q m : ℕ) → (eqb q m || ltb q m) ≡ ltb q (suc m)
one_below q m = grind (arith, nat_tests)

pub contains-numbers_below : (m q : ℕ) → set.contains (numbers_below m) q ≡ ltb q m
unfolding numbers_below
contains-numbers_below zero q = contains-nothing q ∙ grind (arith, nat_tests)
contains-numbers_below (suc m) q = contains-more (numbers_below m) m q ∙ (ap (λ b. eqb q m || b) (contains-numbers_below m q) ∙ one_below q m)

pub contains-members : (m : ℕ) (xs : List ℕ) (q : ℕ) → set.contains (members m xs) q ≡ (ltb q m || has xs q)
unfolding members
contains-members m xs q = contains-union nat_cmp_total (numbers_below m) (set.from_list xs) q ∙ (ap (λ b. b || set.contains (set.from_list {R = nat_cmp} xs) q) (contains-numbers_below m q) ∙ ap (λ b. ltb q m || b) (contains-from_list_nat xs q))

-- no number at all
pub members-none : members 0 [] ≡ set.empty
members-none = same_numbers (members 0 []) set.empty (λ q. contains-members 0 [] q ∙ (grind (arith, nat_tests) ∙ sym (contains-nothing q)))

-- a number that is in a set already
or_there : (b c : Bool) → (b ≡ true → c ≡ true) → (b || c) ≡ c
or_there true c is = sym (is refl)
or_there false c is = refl

pub insert-again : (s : FinSet nat_cmp) (n : ℕ) → set.contains s n ≡ true → set.insert s n ≡ s
insert-again s n in' = same_numbers (set.insert s n) s (λ q.
    contains-more s n q ∙ or_there (eqb q n) (set.contains s q) (λ e. ap (λ k. set.contains s k) (eqb-true q n e) ∙ in'))

-- one more number of the list
or_between : (a b c : Bool) → (a || (b || c)) ≡ (b || (a || c))
or_between true true c = refl
or_between true false c = refl
or_between false b c = refl

pub eqb_sym : (a b : ℕ) → eqb a b ≡ eqb b a
eqb_sym a b = grind (arith, nat_tests)

has-insert : (xs : List ℕ) (i n q : ℕ) → has (insert xs i n) q ≡ (eqb q n || has xs q)
has-insert xs i n q =
    let whole : has xs q ≡ (has (take i xs) q || has (drop i xs) q) =
    ap (λ ys. has ys q) (sym (take-append-drop i xs)) ∙ list_any-append (λ y. y == q) (take i xs) (drop i xs) in
    list_any-append (λ y. y == q) (take i xs) (n ∷ drop i xs)
    ∙ (or_between (has (take i xs) q) (eqb n q) (has (drop i xs) q) ∙ (ap (λ b. b || (has (take i xs) q || has (drop i xs) q)) (eqb_sym n q) ∙ ap (λ b. eqb q n || b) (sym whole)))

pub members-insert : (m : ℕ) (xs : List ℕ) (i n : ℕ) → members m (insert xs i n) ≡ set.insert (members m xs) n
members-insert m xs i n = same_numbers (members m (insert xs i n)) (set.insert (members m xs) n) (λ q.
    contains-members m (insert xs i n) q
    ∙ (ap (λ b. ltb q m || b) (has-insert xs i n q)
    ∙ (or_between (ltb q m) (eqb q n) (has xs q) ∙ sym (contains-more (members m xs) n q ∙ ap (λ b. eqb q n || b) (contains-members m xs q)))))

-- the mark passes the numbers that follow it without a gap
or_left : (a b c : Bool) → (a || (b || c)) ≡ ((a || b) || c)
or_left true b c = refl
or_left false b c = refl

pass_one : (q next x : ℕ) (c : Bool) → x ≡ next → (ltb q next || (eqb x q || c)) ≡ (ltb q (suc next) || c)
pass_one q next x c e =
    or_between (ltb q next) (eqb x q) c
    ∙ (or_left (eqb x q) (ltb q next) c ∙ ap (λ b. b || c) (ap (λ y. eqb y q || ltb q next) e ∙ (ap (λ b. b || ltb q next) (eqb_sym next q) ∙ one_below q next)))

passes : (xs : List ℕ) (k next q : ℕ) → k ≤ length xs → ((j : ℕ) → j < k → get_or xs j 0 ≡ next + j) → (ltb q next || has xs q) ≡ (ltb q (next + k) || has (drop k xs) q)
passes xs zero next q le follow = let none : next ≡ next + 0 = omega arith in ap (λ m. ltb q m || has xs q) none
passes [] (suc k) next q le follow = absurd (omega arith)
passes (x ∷ xs) (suc k) next q le follow =
    let first : x ≡ next = omega (arith, follow 0 (omega arith)) in
    let next_is : suc next + k ≡ next + suc k = omega arith in
    pass_one q next x (has xs q) first
    ∙ (passes xs k (suc next) q (omega arith) (λ j h. omega (arith, follow (suc j) (omega arith))) ∙ ap (λ m. ltb q m || has (drop k xs) q) next_is)

pub members-pass : (m next k : ℕ) (xs : List ℕ) → next ≡ m + 1 → k ≤ length xs → ((j : ℕ) → j < k → get_or xs j 0 ≡ next + j)
    → members (next + k) (drop k xs) ≡ set.insert (members m xs) m
members-pass m next k xs e le follow = same_numbers (members (next + k) (drop k xs)) (set.insert (members m xs) m) (λ q.
    let one : next ≡ suc m = omega arith in
    contains-members (next + k) (drop k xs) q
    ∙ (sym (passes xs k next q le follow)
    ∙ (ap (λ n. ltb q n || has xs q) one
    ∙ sym (contains-more (members m xs) m q
    ∙ (ap (λ b. eqb q m || b) (contains-members m xs q) ∙ (or_left (eqb q m) (ltb q m) (has xs q) ∙ ap (λ b. b || has xs q) (one_below q m)))))))

-- what a list has
has-none : (xs : List ℕ) (q : ℕ) → ((k : ℕ) → k < length xs → get_or xs k 0 ≢ q) → has xs q ≡ false
has-none [] q ne = refl
has-none (x ∷ xs) q ne = let other : eqb x q ≡ false = ne_eqb x q (ne 0 (omega arith)) in rw other (has-none xs q (λ k h. ne (suc k) (omega arith)))

Contains-has : (xs : List ℕ) (q : ℕ) → has xs q ≡ true → Contains xs q
Contains-has [] q in' = cc
Contains-has (x ∷ xs) q in' = elim (cases_eq x q) [
  | inl is ↦ (0, omega arith, is)
  | inr ne ↦
      let other : eqb x q ≡ false = ne_eqb x q ne in
      let rest : Contains xs q = Contains-has xs q (rw other at in') in
      (suc rest.0, omega (arith, rest.1), rest.2)
]

or_true : (b : Bool) → (b || true) ≡ true
or_true true = refl
or_true false = refl

-- what a kept mark and list are for their set
pub members-marked : (m : ℕ) (xs : List ℕ) → IsKept m xs → IsMarked (members m xs) m xs
members-marked m xs kept = record {
  fits = kept.fits;
  below = λ n lt. contains-members m xs n ∙ ap (λ b. b || has xs n) (lt-ltb n m lt);
  missing = λ lt.
      let itself : ltb m m ≡ false = grind (arith, nat_tests) in
      let none : has xs m ≡ false = has-none xs m (λ k h e. absurd (omega (arith, (kept.past k h).above lt))) in
      contains-members m xs m ∙ rw (itself, none) refl;
  ascending = kept.ascending;
  listed = λ n. (
    λ in'.
        let here : get_or xs in'.0 0 ≡ n = sym (get_or_default_zero xs in'.0 n in'.1) ∙ in'.2 in
        let found : has xs n ≡ true = list_any_at (λ y. y == n) xs in'.0 0 in'.1 (eq-eqb (get_or xs in'.0 0) n here) in
        (omega (arith, (kept.past in'.0 in'.1).from), contains-members m xs n ∙ (ap (λ b. ltb n m || b) found ∙ or_true (ltb n m))),
    λ there.
        let above : ltb n m ≡ false = (let le : m ≤ n = there.0 in grind (arith, nat_tests)) in
        let told : (ltb n m || has xs n) ≡ true = sym (contains-members m xs n) ∙ there.1 in
        Contains-has xs n (rw above at told),
  );
}

-- the same of a set that they stand for
pub is-marked : (m : ℕ) (xs : List ℕ) (s : FinSet nat_cmp) → members m xs ≡ s → IsKept m xs → IsMarked s m xs
is-marked m xs s is kept = rw (← is) (members-marked m xs kept)

pub has-below : (m : ℕ) (xs : List ℕ) (s : FinSet nat_cmp) (n : ℕ) → members m xs ≡ s → n < m → set.contains s n ≡ true
has-below m xs s n is lt = rw (← is) (contains-members m xs n ∙ ap (λ b. b || has xs n) (lt-ltb n m lt))

pub has-listed : (m : ℕ) (xs : List ℕ) (s : FinSet nat_cmp) (n i : ℕ) → members m xs ≡ s → i < length xs → get_or xs i 0 ≡ n → set.contains s n ≡ true
has-listed m xs s n i is lt here = rw (← is) (
    let found : has xs n ≡ true = list_any_at (λ y. y == n) xs i 0 lt (eq-eqb (get_or xs i 0) n here) in
    contains-members m xs n ∙ (ap (λ b. ltb n m || b) found ∙ or_true (ltb n m)))

pub has-not : (m : ℕ) (xs : List ℕ) (s : FinSet nat_cmp) (n i : ℕ) → members m xs ≡ s → m ≤ n → GoesTo xs n i → set.contains s n ≡ false
has-not m xs s n i is le goes = rw (← is) (
    let above : ltb n m ≡ false = grind (arith, nat_tests) in
    let none : has xs n ≡ false = has-none xs n (λ k h e. elim (cases_lt k i) [ inl lt ↦ absurd (omega (arith, goes.after k lt)) | inr ge ↦ absurd (omega (arith, goes.before k ge h)) ]) in
    contains-members m xs n ∙ rw (above, none) refl)

-- what the place of a number tells
pub placed : (m : ℕ) (xs : List ℕ) (s : FinSet nat_cmp) (n : ℕ) (r : Result ℕ ℕ) → members m xs ≡ s → m ≤ n
    → IfOk r (λ i. i < length xs) → IfOk r (λ i. get_or xs i 0 ≡ n) → IfErr r (GoesTo xs n) → is_ok r ≡ set.contains s n
placed m xs s n (Ok i) is le lt here goes = sym (has-listed m xs s n i is lt here)
placed m xs s n (Err i) is le lt here goes = sym (has-not m xs s n i is le goes)
