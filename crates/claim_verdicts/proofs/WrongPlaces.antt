-- The first element that is wrong, as a list is gone through.
use Rattle.std.specs.Prelude.{◌≡◌, ℕ, suc, ◌+◌, ◌<◌, ◌≤◌, Bool, true, false, List, [], ◌∷◌, ◌++◌, length, take, drop, Some, None, cond, refl}
use Rattle.std.proofs.Common.{ap, ◌∙◌, sym, arith, get_or, length-take}
use Rattle.std.proofs.lemmas.List.{drop_all, take_more}
use Rattle.std.proofs.Math.Seq.{drop-cons}
use Rattle.claim_verdicts.specs.Places.{first_wrong}

-- what stands from a place on
pub from-place : {A : Type 0} (xs : List A) (i : ℕ) (x : A) → i < length xs → x ≡ get_or xs i x → drop i xs ≡ x ∷ drop (i + 1) xs
from-place xs i x within at = let next : suc i ≡ i + 1 = omega arith in drop-cons xs i x within ∙ (ap (λ n. get_or xs i x ∷ drop n xs) next ∙ ap (λ y. y ∷ drop (i + 1) xs) (sym at))

module _ {A : Type 0} (wrong : List A → A → List A → Bool) where
  -- an element that is as it should be
  pub wrong-more : (xs : List A) (i : ℕ) (x : A) → i < length xs → x ≡ get_or xs i x → wrong (take i xs) x (drop (i + 1) xs) ≡ false
      → first_wrong wrong (take i xs) (drop i xs) ≡ first_wrong wrong (take (i + 1) xs) (drop (i + 1) xs)
  wrong-more xs i x within at right =
      let first = from-place xs i x within at in
      let grown : take (i + 1) xs ≡ take i xs ++ x ∷ [] = take_more xs i x within ∙ ap (λ y. take i xs ++ y ∷ []) (sym at) in
      ap (first_wrong wrong (take i xs)) first
      ∙ (ap (λ b. cond b (Some (length (take i xs))) (first_wrong wrong (take i xs ++ x ∷ []) (drop (i + 1) xs))) right
      ∙ ap (λ ys. first_wrong wrong ys (drop (i + 1) xs)) (sym grown))

  -- and one that is not
  pub wrong-here : (xs : List A) (i : ℕ) (x : A) → i < length xs → x ≡ get_or xs i x → wrong (take i xs) x (drop (i + 1) xs) ≡ true
      → first_wrong wrong (take i xs) (drop i xs) ≡ Some i
  wrong-here xs i x within at bad =
      let first = from-place xs i x within at in
      ap (first_wrong wrong (take i xs)) first
      ∙ (ap (λ b. cond b (Some (length (take i xs))) (first_wrong wrong (take i xs ++ x ∷ []) (drop (i + 1) xs))) bad
      ∙ ap Some (length-take i xs ∙ omega (arith, within)))

  pub wrong-none : (xs : List A) (i : ℕ) → length xs ≤ i → first_wrong wrong (take i xs) (drop i xs) ≡ None
  wrong-none xs i over = ap (first_wrong wrong (take i xs)) (drop_all i xs over)

-- two ways to be wrong that agree
pub wrong-same : {A : Type 0} (w v : List A → A → List A → Bool) → ((before : List A) (x : A) (after : List A) → w before x after ≡ v before x after)
    → (before xs : List A) → first_wrong w before xs ≡ first_wrong v before xs
wrong-same w v agree before [] = refl
wrong-same w v agree before (x ∷ xs) =
    ap (λ b. cond b (Some (length before)) (first_wrong w (before ++ x ∷ []) xs)) (agree before x xs)
    ∙ ap (λ o. cond (v before x xs) (Some (length before)) o) (wrong-same w v agree (before ++ x ∷ []) xs)
