-- The i-th of the numbers that are chosen.
use Rattle.std.proofs.Common.{◌≡◌, ℕ, zero, suc, ◌+◌, ◌-◌, ◌<◌, ◌≤◌, Bool, true, false, cond, List, [], ◌∷◌, ◌++◌, length, get_or, take, Some, None, refl, ap, sym, ◌∙◌, subst, arith, add-zero}
use Rattle.std.proofs.lemmas.List.Sums.{sum_by-cons}
use Rattle.std.proofs.lemmas.Option.{slice_get_past}
use Rattle.std.specs.List.{count_by, slice_get}
use Rattle.flight_index.specs.Flights.{numbers_of}
use Rattle.lists.specs.Places.{slice_get-back, slice_get-front}

-- one more is counted where the first is chosen
pub count-cons : {X : Type 0} (p : X → Bool) (x : X) (xs : List X) → count_by p (x ∷ xs) ≡ cond (p x) 1 0 + count_by p xs
count-cons p x xs = sum_by-cons (λ y. cond (p y) 1 0) x xs

pub length_numbers_of : {X : Type 0} (p : X → Bool) (n : ℕ) (xs : List X) → length (numbers_of p n xs) ≡ count_by p xs
length_numbers_of p n [] = refl
length_numbers_of p n (x ∷ xs) =
    let ih = length_numbers_of p (n + 1) xs in
    let step : length (cond (p x) (n ∷ numbers_of p (n + 1) xs) (numbers_of p (n + 1) xs)) ≡ cond (p x) 1 0 + count_by p xs =
    elim (p x) as (λ b. length (cond b (n ∷ numbers_of p (n + 1) xs) (numbers_of p (n + 1) xs)) ≡ cond b 1 0 + count_by p xs) [
      | true ↦ omega (arith, ih)
      | false ↦ omega (arith, ih)
    ]
    in step ∙ sym (count-cons p x xs)

pub numbers_of-append : {X : Type 0} (p : X → Bool) (n : ℕ) (xs ys : List X) → numbers_of p n (xs ++ ys) ≡ numbers_of p n xs ++ numbers_of p (n + length xs) ys
numbers_of-append p n [] ys = grind arith
numbers_of-append p n (x ∷ xs) ys =
    let e : n + 1 + length xs ≡ n + length (x ∷ xs) = omega arith in
    let h = numbers_of-append p (n + 1) xs ys in
    elim (p x) as (λ b. cond b (n ∷ numbers_of p (n + 1) (xs ++ ys)) (numbers_of p (n + 1) (xs ++ ys)) ≡ cond b (n ∷ numbers_of p (n + 1) xs) (numbers_of p (n + 1) xs) ++ numbers_of p (n + length (x ∷ xs)) ys) [
      | true ↦ ap (λ l. n ∷ l) (rw (sym e) h)
      | false ↦ rw (sym e) h
    ]

-- the i-th stands on the left
pub nth_left : {X : Type 0} (p : X → Bool) (n : ℕ) (xs ys : List X) (i : ℕ) → i < count_by p xs
    → slice_get (numbers_of p n (xs ++ ys)) i ≡ slice_get (numbers_of p n xs) i
nth_left p n xs ys i h = rw (numbers_of-append p n xs ys) (slice_get-front (numbers_of p n xs) (numbers_of p (n + length xs) ys) i (rw (length_numbers_of p n xs) h))

-- the i-th stands on the right
pub nth_right : {X : Type 0} (p : X → Bool) (n : ℕ) (xs ys : List X) (i : ℕ) → count_by p xs ≤ i
    → slice_get (numbers_of p n (xs ++ ys)) i ≡ slice_get (numbers_of p (n + length xs) ys) (i - count_by p xs)
nth_right p n xs ys i h = rw (numbers_of-append p n xs ys)
    (slice_get-back (numbers_of p n xs) (numbers_of p (n + length xs) ys) i (i - count_by p xs) (rw (length_numbers_of p n xs) (omega (arith, h))))

passed : (b : Bool) (n : ℕ) (ns : List ℕ) (c i m : ℕ) → ((j : ℕ) → c ≡ j → slice_get ns j ≡ Some m) → cond b 1 0 + c ≡ i
    → slice_get (cond b (n ∷ ns) ns) i ≡ Some m
passed true n ns c zero m h e = absurd (omega (arith, e))
passed true n ns c (suc i) m h e = h i (omega (arith, e))
passed false n ns c i m h e = h i (omega (arith, e))

-- the first is passed over, whether it is chosen or not
after_first : {X : Type 0} (p : X → Bool) (n : ℕ) (x : X) (xs : List X) (k i : ℕ)
    → ((j : ℕ) → count_by p (take k xs) ≡ j → slice_get (numbers_of p (n + 1) xs) j ≡ Some (n + suc k))
    → cond (p x) 1 0 + count_by p (take k xs) ≡ i → slice_get (numbers_of p n (x ∷ xs)) i ≡ Some (n + suc k)
after_first p n x xs k i h before = passed (p x) n (numbers_of p (n + 1) xs) (count_by p (take k xs)) i (n + suc k) h before

-- the one that is chosen at place k, after i others
pub nth_here : {X : Type 0} (p : X → Bool) (n : ℕ) (xs : List X) (k i : ℕ) (d : X) → k < length xs → p (get_or xs k d) ≡ true
    → count_by p (take k xs) ≡ i → slice_get (numbers_of p n xs) i ≡ Some (n + k)
nth_here p n [] k i d within chosen before = absurd (omega (arith, within))
nth_here {X} p n (x ∷ xs) zero i d within chosen before =
    let none : i ≡ 0 = sym before in
    subst (λ (b : Bool). slice_get (cond b (n ∷ numbers_of p (n + 1) xs) (numbers_of p (n + 1) xs)) i ≡ Some (n + 0)) (sym chosen)
    (subst (λ (j : ℕ). slice_get (n ∷ numbers_of p (n + 1) xs) j ≡ Some (n + 0)) (sym none) (ap (λ m. Some m) (sym (add-zero n))))
nth_here {X} p n (x ∷ xs) (suc k) i d within chosen before =
    let e : n + 1 + k ≡ n + suc k = omega arith in
    let c : cond (p x) 1 0 + count_by p (take k xs) ≡ i = sym (count-cons p x (take k xs)) ∙ before in
    after_first p n x xs k i (λ j same. nth_here p (n + 1) xs k j d (omega (arith, within)) chosen same ∙ ap (λ m. Some m) e) c

-- there are no more than i
pub nth_none : {X : Type 0} (p : X → Bool) (n : ℕ) (xs : List X) (i : ℕ) → count_by p xs ≤ i → slice_get (numbers_of p n xs) i ≡ None
nth_none p n xs i h = slice_get_past (numbers_of p n xs) i (rw (length_numbers_of p n xs) h)
