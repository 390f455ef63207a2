-- Lists of which no element is wrong.
use Rattle.std.specs.Prelude.{◌≡◌, Bool, true, false, List, [], ◌∷◌, ◌++◌, length, Some, None, cond, refl}
use Rattle.claim_verdicts.specs.Places.{first_wrong}

abbrev pub NoneWrong : {A : Type 0} → (List A → A → List A → Bool) → List A → List A → Type 0
NoneWrong w before [] = Unit {0}
NoneWrong w before (x ∷ xs) = (w before x xs ≡ false) × NoneWrong w (before ++ x ∷ []) xs

pub none-first : {A : Type 0} (w : List A → A → List A → Bool) (before xs : List A) → first_wrong w before xs ≡ None → NoneWrong w before xs
none-first w before [] e = tt
none-first w before (x ∷ xs) e = by (none-first w (before ++ x ∷ []) xs) (w before x xs) refl e where
  by : (first_wrong w (before ++ x ∷ []) xs ≡ None → NoneWrong w (before ++ x ∷ []) xs) → (b : Bool) → w before x xs ≡ b → cond b (Some (length before)) (first_wrong w (before ++ x ∷ []) xs) ≡ None → NoneWrong w before (x ∷ xs)
  by behind true s e = cc
  by behind false s e = (s, behind e)

pub first-none : {A : Type 0} (w : List A → A → List A → Bool) (before xs : List A) → NoneWrong w before xs → first_wrong w before xs ≡ None
first-none w before [] none = refl
first-none w before (x ∷ xs) none = rw none.0 (first-none w (before ++ x ∷ []) xs none.1)
