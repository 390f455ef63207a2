-- What holds of some element of a list, of each, and what a list contains.
use Rattle.std.proofs.Common.{◌≡◌, zero, suc, ◌+◌, List, [], ◌∷◌, ◌++◌, refl, sym, ◌∙◌, subst, length, arith, inl, inr, ◌⊎◌}
use Rattle.std.proofs.lemmas.List.{get_or_append_left, length-append}
use Rattle.std.specs.Prelude.{Any, Contains}
use Rattle.lists.specs.Each.{Each}

module _ {A : Type 0} where
  pub contains_here : (x : A) (xs : List A) → Contains (x ∷ xs) x
  contains_here x xs = (0, omega arith, refl)

  pub contains_later : (y : A) (xs : List A) (x : A) → Contains xs x → Contains (y ∷ xs) x
  contains_later y xs x (k, l, e) = (suc k, omega arith, e)

  pub contains_cases : (y : A) (xs : List A) (x : A) → Contains (y ∷ xs) x → (y ≡ x) ⊎ Contains xs x
  contains_cases y xs x (zero, l, e) = inl e
  contains_cases y xs x (suc k, l, e) = inr (k, omega arith, e)

  pub contains_none : (x : A) → Contains [] x → ⊥
  contains_none x (k, l, e) = omega arith

  pub any_here : (P : A → Type 0) (x : A) (xs : List A) → P x → Any P (x ∷ xs)
  any_here P x xs p = (0, x, omega arith, refl, p)

  pub any_later : (P : A → Type 0) (x : A) (xs : List A) → Any P xs → Any P (x ∷ xs)
  any_later P x xs (k, y, l, e, p) = (suc k, y, omega arith, e, p)

  pub any_cases : (P : A → Type 0) (x : A) (xs : List A) → Any P (x ∷ xs) → P x ⊎ Any P xs
  any_cases P x xs (zero, y, l, e, p) = inl (subst P (sym e) p)
  any_cases P x xs (suc k, y, l, e, p) = inr (k, y, omega arith, e, p)

  pub any_then : (P Q : A → Type 0) (xs : List A) → ((x : A) → P x → Q x) → Any P xs → Any Q xs
  any_then P Q xs f (k, x, l, e, p) = (k, x, l, e, f x p)

  pub any_left : (P : A → Type 0) (xs ys : List A) → Any P xs → Any P (xs ++ ys)
  any_left P xs ys (k, x, l, e, p) =
      let longer : length (xs ++ ys) ≡ length xs + length ys = length-append xs ys in
      (k, x, omega arith, get_or_append_left xs ys x k l ∙ e, p)

  pub each_then : (P Q : A → Type 0) (xs : List A) → ((x : A) → P x → Q x) → Each P xs → Each Q xs
  each_then P Q [] f all = tt
  each_then P Q (x ∷ xs) f all = (f x all.0, each_then P Q xs f all.1)

  pub each_both : (P : A → Type 0) (xs ys : List A) → Each P xs → Each P ys → Each P (xs ++ ys)
  each_both P [] ys a b = b
  each_both P (x ∷ xs) ys a b = (a.0, each_both P xs ys a.1 b)

  pub each_front : (P : A → Type 0) (xs ys : List A) → Each P (xs ++ ys) → Each P xs
  each_front P [] ys a = tt
  each_front P (x ∷ xs) ys a = (a.0, each_front P xs ys a.1)

  pub each_rest : (P : A → Type 0) (xs ys : List A) → Each P (xs ++ ys) → Each P ys
  each_rest P [] ys a = a
  each_rest P (x ∷ xs) ys a = each_rest P xs ys a.1

  -- what follows of one element of which both hold
  pub of_one : {R : Type 0} (P Q : A → Type 0) (xs : List A) → ((x : A) → P x → Q x → R) → Each P xs → Any Q xs → R
  of_one P Q [] f all (k, x, l, e, q) = absurd (omega arith)
  of_one P Q (x ∷ xs) f all some = elim (any_cases Q x xs some) [ inl q ↦ f x all.0 q | inr rest ↦ of_one P Q xs f all.1 rest ]
