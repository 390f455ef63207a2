-- What holds of each element of a list.
use Rattle.std.proofs.Common.{ℕ, zero, suc, List, [], ◌∷◌, ◌++◌, take, drop, Some, ◌≡◌, slice_get, subst}
use Rattle.std.proofs.lemmas.Option.{none-some, same_Some}

-- it holds of each element
abbrev pub Each : {A : Type 0} → (A → Type 0) → List A → Type 0
Each P [] = Unit {0}
Each P (x ∷ xs) = P x × Each P xs

module _ {A : Type 0} (P : A → Type 0) where
  -- of two lists one after the other it holds where it holds of both
  pub each_append : (xs ys : List A) → Each P xs → Each P ys → Each P (xs ++ ys)
  each_append [] ys here there = there
  each_append (x ∷ xs) ys here there = (here.0, each_append xs ys here.1 there)

  pub each_front : (xs ys : List A) → Each P (xs ++ ys) → Each P xs
  each_front [] ys all = tt
  each_front (x ∷ xs) ys all = (all.0, each_front xs ys all.1)

  pub each_back : (xs ys : List A) → Each P (xs ++ ys) → Each P ys
  each_back [] ys all = all
  each_back (x ∷ xs) ys all = each_back xs ys all.1

  pub each_between : (before : List A) (x : A) (after : List A) → Each P (before ++ x ∷ after) → P x
  each_between before x after all = (each_back before (x ∷ after) all).0

  pub each_take : (n : ℕ) (xs : List A) → Each P xs → Each P (take n xs)
  each_take zero xs all = tt
  each_take (suc n) [] all = tt
  each_take (suc n) (x ∷ xs) all = (all.0, each_take n xs all.1)

  pub each_drop : (n : ℕ) (xs : List A) → Each P xs → Each P (drop n xs)
  each_drop zero xs all = all
  each_drop (suc n) [] all = tt
  each_drop (suc n) (x ∷ xs) all = each_drop n xs all.1

  pub each_at : (xs : List A) (i : ℕ) (x : A) → Each P xs → slice_get xs i ≡ Some x → P x
  each_at [] i x all at = absurd (none-some x at)
  each_at (y ∷ xs) zero x all at = subst P (same_Some y x at) all.0
  each_at (y ∷ xs) (suc i) x all at = each_at xs i x all.1 at

-- what follows from it holds of each element too
pub each_weaker : {A : Type 0} (P Q : A → Type 0) → ((x : A) → P x → Q x) → (xs : List A) → Each P xs → Each Q xs
each_weaker P Q so [] all = tt
each_weaker P Q so (x ∷ xs) all = (so x all.0, each_weaker P Q so xs all.1)
