-- Elements at a place, and the parts of a list before and after one.
use Rattle.std.proofs.Common.{ℕ, zero, suc, ◌+◌, ◌-◌, ◌<◌, ◌≤◌, ◌⊎◌, inl, inr, List, [], ◌∷◌, ◌++◌, length, take, drop, Some, None, ◌≡◌, refl, ap, sym, ◌∙◌, slice_get, arith}
use Rattle.std.proofs.lemmas.List.{length-take, length-drop, take_all}
use Rattle.std.proofs.lemmas.Option.{none-some, same_Some}

module _ {A : Type 0} where
  pub not_empty : (x : A) (xs : List A) → x ∷ xs ≡ [] → ⊥
  not_empty x xs e = absurd (cc (e))

  -- two lists that are nothing together
  pub no_front : (xs ys : List A) → xs ++ ys ≡ [] → xs ≡ []
  no_front [] ys e = refl
  no_front (x ∷ xs) ys e = absurd (cc (e))

  pub no_back : (xs ys : List A) → xs ++ ys ≡ [] → ys ≡ []
  no_back [] ys e = e
  no_back (x ∷ xs) ys e = absurd (cc (e))

  -- an element of the first list of two
  pub slice_get-front : (xs ys : List A) (i : ℕ) → i < length xs → slice_get (xs ++ ys) i ≡ slice_get xs i
  slice_get-front [] ys i lt = absurd (omega (arith, lt))
  slice_get-front (x ∷ xs) ys zero lt = refl
  slice_get-front (x ∷ xs) ys (suc i) lt = slice_get-front xs ys i (omega (arith, lt))

  pub slice_get_front : (xs ys : List A) (i : ℕ) (x : A) → slice_get xs i ≡ Some x → slice_get (xs ++ ys) i ≡ Some x
  slice_get_front [] ys i x at = absurd (none-some x at)
  slice_get_front (y ∷ xs) ys zero x at = at
  slice_get_front (y ∷ xs) ys (suc i) x at = slice_get_front xs ys i x at

  -- an element of the second
  pub slice_get-back : (xs ys : List A) (i j : ℕ) → i ≡ length xs + j → slice_get (xs ++ ys) i ≡ slice_get ys j
  slice_get-back [] ys i j e = ap (slice_get ys) (omega (arith, e))
  slice_get-back (x ∷ xs) ys zero j e = absurd (omega (arith, e))
  slice_get-back (x ∷ xs) ys (suc i) j e = slice_get-back xs ys i j (omega (arith, e))

  pub slice_get_seam : (xs : List A) (y : A) (ys : List A) → slice_get (xs ++ y ∷ ys) (length xs) ≡ Some y
  slice_get_seam [] y ys = refl
  slice_get_seam (x ∷ xs) y ys = slice_get_seam xs y ys

  pub slice_get_last : (xs : List A) (y : A) (i : ℕ) → i ≡ length xs → slice_get (xs ++ y ∷ []) i ≡ Some y
  slice_get_last xs y i is = rw is (slice_get_seam xs y [])

  -- an element of two lists is one of the first or of the second
  pub slice_get_either : (xs ys : List A) (k : ℕ) (x : A) → slice_get (xs ++ ys) k ≡ Some x → (slice_get xs k ≡ Some x) ⊎ ((j : ℕ) × (k ≡ length xs + j) × (slice_get ys j ≡ Some x))
  slice_get_either [] ys k x at = inr (k, omega arith, at)
  slice_get_either (y ∷ xs) ys zero x at = inl at
  slice_get_either (y ∷ xs) ys (suc k) x at = elim (slice_get_either xs ys k x at) [
    | inl is ↦ inl is
    | inr is ↦ inr (is.0, omega (arith, is.1), is.2)
  ]

  pub slice_get_there : (xs : List A) (i : ℕ) → i < length xs → (x : A) × (slice_get xs i ≡ Some x)
  slice_get_there [] i lt = absurd (omega (arith, lt))
  slice_get_there (x ∷ xs) zero lt = (x, refl)
  slice_get_there (x ∷ xs) (suc i) lt = slice_get_there xs i (omega (arith, lt))

  pub no_place : (xs : List A) (i : ℕ) → slice_get xs i ≡ None → length xs ≤ i
  no_place [] i at = omega arith
  no_place (x ∷ xs) zero at = absurd (cc (at))
  no_place (x ∷ xs) (suc i) at = omega (arith, no_place xs i at)

  -- what was taken has the elements before it
  pub slice_get-take : (n : ℕ) (xs : List A) (i : ℕ) → i < n → slice_get (take n xs) i ≡ slice_get xs i
  slice_get-take zero xs i lt = absurd (omega (arith, lt))
  slice_get-take (suc n) [] i lt = refl
  slice_get-take (suc n) (x ∷ xs) zero lt = refl
  slice_get-take (suc n) (x ∷ xs) (suc i) lt = slice_get-take n xs i (omega (arith, lt))

  pub slice_get_taken : (n : ℕ) (xs : List A) (i : ℕ) (x : A) → slice_get (take n xs) i ≡ Some x → slice_get xs i ≡ Some x
  slice_get_taken zero xs i x at = absurd (none-some x at)
  slice_get_taken (suc n) [] i x at = absurd (none-some x at)
  slice_get_taken (suc n) (y ∷ xs) zero x at = at
  slice_get_taken (suc n) (y ∷ xs) (suc i) x at = slice_get_taken n xs i x at

  -- one element more
  pub take_next : (xs : List A) (i : ℕ) (x : A) → slice_get xs i ≡ Some x → take i xs ++ x ∷ [] ≡ take (suc i) xs
  take_next [] i x at = absurd (none-some x at)
  take_next (y ∷ xs) zero x at = ap (λ z. z ∷ []) (sym (same_Some y x at))
  take_next (y ∷ xs) (suc i) x at = ap (λ l. y ∷ l) (take_next xs i x at)

  pub drop_next : (xs : List A) (i : ℕ) (x : A) → slice_get xs i ≡ Some x → drop i xs ≡ x ∷ drop (suc i) xs
  drop_next [] i x at = absurd (none-some x at)
  drop_next (y ∷ xs) zero x at = ap (λ z. z ∷ xs) (same_Some y x at)
  drop_next (y ∷ xs) (suc i) x at = drop_next xs i x at

  take_none : (n : ℕ) → take {A = A} n [] ≡ []
  take_none zero = refl
  take_none (suc n) = refl

  -- a part taken in two steps
  pub take_on : (a c : ℕ) (xs : List A) → a ≤ c → take c xs ≡ take a xs ++ take (c - a) (drop a xs)
  take_on zero c xs le = ap (λ n. take n xs) (omega arith)
  take_on (suc a) zero xs le = absurd (omega (arith, le))
  take_on (suc a) (suc c) [] le = sym (take_none (suc c - suc a))
  take_on (suc a) (suc c) (x ∷ xs) le =
      ap (λ l. x ∷ l) (take_on a c xs (omega (arith, le)) ∙ ap (λ n. take a xs ++ take n (drop a xs)) (same_rest a c))
    where
      same_rest : (a c : ℕ) → c - a ≡ suc c - suc a
      same_rest a c = omega arith

  pub take_less : (j k : ℕ) (xs : List A) → j ≤ k → take j (take k xs) ≡ take j xs
  take_less zero k xs le = refl
  take_less (suc j) zero xs le = absurd (omega (arith, le))
  take_less (suc j) (suc k) [] le = refl
  take_less (suc j) (suc k) (x ∷ xs) le = ap (λ l. x ∷ l) (take_less j k xs (omega (arith, le)))

  pub take-append : (n : ℕ) (xs ys : List A) → take n (xs ++ ys) ≡ take n xs ++ take (n - length xs) ys
  take-append zero xs ys = let none : 0 ≡ 0 - length xs = omega arith in ap (λ m. take m ys) none
  take-append (suc n) [] ys = let all : suc n ≡ suc n - 0 = omega arith in ap (λ m. take m ys) all
  take-append (suc n) (x ∷ xs) ys =
      let fewer : n - length xs ≡ suc n - length (x ∷ xs) = omega arith in
      ap (λ l. x ∷ l) (take-append n xs ys ∙ ap (λ m. take n xs ++ take m ys) fewer)

  -- all of what is left
  pub take_rest : (n : ℕ) (xs : List A) → take (length xs - n) (drop n xs) ≡ drop n xs
  take_rest n xs = take_all (length xs - n) (drop n xs) (omega (arith, length-drop n xs))

  -- what gave less than was asked for gave all
  pub take_short : (n : ℕ) (xs : List A) → length (take n xs) < n → take n xs ≡ xs
  take_short zero xs lt = absurd (omega (arith, lt))
  take_short (suc n) [] lt = refl
  take_short (suc n) (x ∷ xs) lt = ap (λ l. x ∷ l) (take_short n xs (omega (arith, lt)))

  pub length_taken : (n : ℕ) (xs : List A) → length (take n xs) ≤ length xs
  length_taken n xs = omega (arith, length-take n xs)
