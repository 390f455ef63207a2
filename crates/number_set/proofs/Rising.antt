-- Ascending lists of numbers, past a mark.
use Rattle.std.specs.Prelude.{◌≡◌, ◌≢◌, ℕ, zero, suc, ◌+◌, ◌-◌, ◌<◌, ◌≤◌, List, Some, Result, Ok, Err, IfErr, OnOk, OnErr, length, drop, insert, slice_get}
use Rattle.std.specs.declared.alloc.AllocError.{AllocError}
use Rattle.std.specs.List.Sorted.{IsBinarySearchResult, IsStrictlyIncreasing}
use Rattle.std.specs.Ordering.{nat_cmp}
use Rattle.std.proofs.Common.{ap, arith, ◌∙◌, get_or, inl, inr, length-drop}
use Rattle.std.proofs.lemmas.Bool.{cases_lt, cases_eq}
use Rattle.std.proofs.lemmas.List.{get_or-drop}
use Rattle.std.proofs.lemmas.List.Edits.{length-insert, get_or-insert_below, get_or-insert_at, get_or-insert_above}
use Rattle.std.proofs.lemmas.List.Sorted.{searched}
use Rattle.std.proofs.lemmas.Option.{get_or_from_slice_get}
use Rattle.number_set.specs.Marked.{greatest}
use Rattle.number_set.specs.Members.{GoesTo, IsKept, IsPast}

-- with each place a number rises by one at least
pub rises : (xs : List ℕ) (i k j : ℕ) → IsStrictlyIncreasing xs → j ≡ i + k → j < length xs → get_or xs i 0 + k ≤ get_or xs j 0
rises xs i zero j up e lt = omega (arith, ap (λ n. get_or xs n 0) e, ap (λ n. get_or xs n 0) (let same : i + 0 ≡ i = omega arith in same))
rises xs i (suc k) j up e lt =
    let next : i + k + 1 ≡ j = omega arith in
    omega (arith, rises xs i k (i + k) up (let same : i + k ≡ i + k = omega arith in same) (omega arith), up (i + k) (omega arith), ap (λ n. get_or xs n 0) next)

-- below the first number
pub goes_first : (xs : List ℕ) (n : ℕ) → IsStrictlyIncreasing xs → n < get_or xs 0 0 → GoesTo xs n 0
goes_first xs n up lt = record {
  within = omega arith;
  after = λ k h. absurd (omega arith);
  before = λ k _ h. omega (arith, rises xs 0 k k up (omega arith) h);
}

-- above the last one
pub goes_last : (xs : List ℕ) (n last : ℕ) → IsStrictlyIncreasing xs → slice_get xs (length xs - 1) ≡ Some last → last < n → GoesTo xs n (length xs)
goes_last xs n last up is lt = record {
  within = omega arith;
  after = λ k h. let here : get_or xs (length xs - 1) 0 ≡ last = get_or_from_slice_get xs (length xs - 1) last 0 is in
      omega (arith, rises xs k (length xs - 1 - k) (length xs - 1) up (omega arith) (omega arith));
  before = λ k le h. absurd (omega arith);
}

-- what `binary_search` answers
pub goes_found : (xs : List ℕ) (n : ℕ) (r : Result ℕ ℕ) → IsStrictlyIncreasing xs → IsBinarySearchResult (λ y. nat_cmp y n) xs r → IfErr r (GoesTo xs n)
goes_found xs n (Ok i) up is = tt
goes_found xs n (Err i) up is =
    let at : (i ≤ length xs) × ((k : ℕ) → k < i → get_or xs k 0 < n) × ((k : ℕ) → i ≤ k → k < length xs → n < get_or xs k 0) =
    searched xs n (Err i) is (λ j k le lt. omega (arith, rises xs j (k - j) k up (omega arith) lt)) in
    record { within = at.0; after = at.1; before = at.2 }

-- the numbers after the one that was put in
after-insert : (xs : List ℕ) (n i k : ℕ) → i < k → i ≤ length xs → get_or (insert xs i n) k 0 ≡ get_or xs (k - 1) 0
after-insert xs n i k lt le = let one : k ≡ k - 1 + 1 = omega arith in ap (λ j. get_or (insert xs i n) j 0) one ∙ get_or-insert_above xs i n 0 (k - 1) (omega arith) le

-- one more number in its place
ascends-insert : (xs : List ℕ) (n i : ℕ) → IsStrictlyIncreasing xs → GoesTo xs n i → IsStrictlyIncreasing (insert xs i n)
ascends-insert xs n i up goes k lt =
    let within : i ≤ length xs = goes.within in
    let more : length (insert xs i n) ≡ length xs + 1 = length-insert xs i n within in
    elim (cases_lt (k + 1) i) [
      | inl below ↦ omega (arith, up k (omega arith), get_or-insert_below xs i n 0 k (omega arith) within, get_or-insert_below xs i n 0 (k + 1) below within)
      | inr ge ↦ elim (cases_lt k i) [
        | inl last ↦ let at : k + 1 ≡ i = omega arith in
            omega (arith, goes.after k last, get_or-insert_below xs i n 0 k last within, get_or-insert_at xs i n 0 within, ap (λ j. get_or (insert xs i n) j 0) at)
        | inr past ↦ elim (cases_eq k i) [
          | inl here ↦
              omega (arith, goes.before k past (omega arith), get_or-insert_at xs i n 0 within, ap (λ j. get_or (insert xs i n) j 0) here, get_or-insert_above xs i n 0 k past within)
          | inr ne ↦ let one : k - 1 + 1 ≡ k = omega arith in
              omega (arith, up (k - 1) (omega arith), ap (λ j. get_or xs j 0) one, after-insert xs n i k (omega arith) within, get_or-insert_above xs i n 0 k past within)
        ]
      ]
    ]

-- the list that has it is kept
pub kept-insert : (mark n i : ℕ) (xs : List ℕ) → IsKept mark xs → IsPast mark n → GoesTo xs n i → IsKept mark (insert xs i n)
kept-insert mark n i xs kept past goes = record {
  fits = kept.fits;
  ascending = ascends-insert xs n i kept.ascending goes;
  past = λ k lt.
      let within : i ≤ length xs = goes.within in
      let more : length (insert xs i n) ≡ length xs + 1 = length-insert xs i n within in
      elim (cases_lt k i) [
        | inl below ↦ rw (get_or-insert_below xs i n 0 k below within) (kept.past k (omega arith))
        | inr ge ↦ elim (cases_eq k i) [
          | inl here ↦ rw (here, get_or-insert_at xs i n 0 within) past
          | inr ne ↦ rw (after-insert xs n i k (omega arith) within) (kept.past (k - 1) (omega arith))
        ]
      ];
}

-- and so is the list that may have it
pub kept-either : (mark n i : ℕ) (xs ys : List ℕ) (r : Result (Unit {0}) AllocError) → OnOk r (ys ≡ insert xs i n) → OnErr r (ys ≡ xs)
    → IsKept mark xs → IsPast mark n → GoesTo xs n i → IsKept mark ys
kept-either mark n i xs ys (Ok u) ok err kept past goes = rw ok (kept-insert mark n i xs kept past goes)
kept-either mark n i xs ys (Err e) ok err kept past goes = rw err kept

-- what is left of a list where the mark passes the first k numbers, which follow it without a gap
pub kept-drop : (mark next k : ℕ) (xs : List ℕ) → IsKept mark xs → mark < greatest → next ≡ mark + 1 → next + k ≤ greatest → k ≤ length xs
    → (k < length xs → next + k < greatest → get_or xs k 0 ≢ next + k) → IsKept (next + k) (drop k xs)
kept-drop mark next k xs kept lt e fits le gap = record {
  fits = fits;
  ascending = λ j h.
      let shorter : length (drop k xs) ≡ length xs - k = length-drop k xs in
      let one : k + j + 1 ≡ k + (j + 1) = omega arith in
      omega (arith, kept.ascending (k + j) (omega arith), get_or-drop k xs j 0, get_or-drop k xs (j + 1) 0, ap (λ i. get_or xs i 0) one);
  past = λ j h.
      let shorter : length (drop k xs) ≡ length xs - k = length-drop k xs in
      let first : mark < get_or xs 0 0 = (kept.past 0 (omega arith)).above lt in
      let to_k : get_or xs 0 0 + k ≤ get_or xs k 0 = rises xs 0 k k kept.ascending (omega arith) (omega arith) in
      let from_k : get_or xs k 0 + j ≤ get_or xs (k + j) 0 = rises xs k j (k + j) kept.ascending (omega arith) (omega arith) in
      let here : get_or (drop k xs) j 0 ≡ get_or xs (k + j) 0 = get_or-drop k xs j 0 in
      rw here (record { from = omega arith; above = λ more. let apart : get_or xs k 0 ≢ next + k = gap (omega arith) more in omega arith });
}
