-- Laws of schedules without their repeats: what further steps leave.
use Rattle.std.specs.Prelude.{◌≡◌, ℕ, Bool, true, false, List, [], ◌∷◌, ◌++◌, cond, refl}
use Rattle.std.proofs.Common.{ap}
use Rattle.vst_base.specs.declared.step.Step.{Step}
use Rattle.net_semantics.specs.Once.{is_repeat, delivered_after, delivered_from, once_from}

module _ {I : Type 0} where
  pub delivered_from-append : (delivered : ℕ → Bool) (ss ts : List (Step I)) → delivered_from delivered (ss ++ ts) ≡ delivered_from (delivered_from delivered ss) ts
  delivered_from-append delivered [] ts = refl
  delivered_from-append delivered (s ∷ ss) ts = delivered_from-append (delivered_after delivered s) ss ts

  choice-append : (b : Bool) (s : Step I) (xs ys zs : List (Step I)) → zs ≡ xs ++ ys → cond b zs (s ∷ zs) ≡ cond b xs (s ∷ xs) ++ ys
  choice-append true s xs ys zs e = e
  choice-append false s xs ys zs e = ap (λ x. s ∷ x) e

  pub once_from-append : (delivered : ℕ → Bool) (ss ts : List (Step I)) → once_from delivered (ss ++ ts) ≡ once_from delivered ss ++ once_from (delivered_from delivered ss) ts
  once_from-append delivered [] ts = refl
  once_from-append delivered (s ∷ ss) ts =
      choice-append (is_repeat delivered s) s (once_from (delivered_after delivered s) ss) (once_from (delivered_from (delivered_after delivered s) ss) ts)
      (once_from (delivered_after delivered s) (ss ++ ts)) (once_from-append (delivered_after delivered s) ss ts)
