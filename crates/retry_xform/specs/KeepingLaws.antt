-- What holds of each packet that is kept holds of each in another order, and where some are dropped.
use Rattle.std.specs.Prelude.{ℕ, not, Bool, true, false, cond, List, [], ◌∷◌}
use Rattle.lists.specs.Each.{Each, each_append}
use Rattle.retry_xform.specs.Keeping.{Kept, acknowledged, is_meant, rotated}

module _ {M : Type 0} (P : Kept M → Type 0) where
  pub each-rotated : (ks : List (Kept M)) → Each P ks → Each P (rotated ks)
  each-rotated [] all = tt
  each-rotated (k ∷ ks) all = each_append P ks (k ∷ []) all.1 (all.0, tt)

  each-choice : (b : Bool) (k : Kept M) (ks : List (Kept M)) → P k → Each P ks → Each P (cond b (k ∷ ks) ks)
  each-choice true k ks here there = (here, there)
  each-choice false k ks here there = there

  pub each-acknowledged : (from number : ℕ) (ks : List (Kept M)) → Each P ks → Each P (acknowledged from number ks)
  each-acknowledged from number [] all = tt
  each-acknowledged from number (k ∷ ks) all =
      each-choice (not (is_meant from number k)) k (acknowledged from number ks) all.0 (each-acknowledged from number ks all.1)
