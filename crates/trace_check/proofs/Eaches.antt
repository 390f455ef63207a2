-- What holds of each element of a list, and of either of two things.
use Rattle.std.specs.Prelude.{Bool, true, false, cond, ℕ, zero, suc, List, [], ◌∷◌, Option, Some, None, slice_get}
use Rattle.lists.specs.Each.{Each}

-- what holds of both of two things holds of the one that a test takes
pub either : {A : Type 0} (P : A → Type 0) (b : Bool) (x y : A) → P x → P y → P (cond b x y)
either P true x y first second = first
either P false x y first second = second

-- where there is something, it holds of it
abbrev pub IfThere : {A : Type 0} → (A → Type 0) → Option A → Type 0
IfThere P None = Unit {0}
IfThere P (Some x) = P x

pub each-at : {A : Type 0} (P : A → Type 0) (xs : List A) (k : ℕ) → Each P xs → IfThere P (slice_get xs k)
each-at P [] zero all = tt
each-at P [] (suc k) all = tt
each-at P (x ∷ xs) zero all = all.0
each-at P (x ∷ xs) (suc k) all = each-at P xs k all.1
