-- Where two texts differ.
use Rattle.std.specs.Prelude.{◌≡◌, ℕ, ◌+◌, false, List, [], ◌∷◌, map, Option, Some, None, cond, codes, refl}
use Rattle.std.proofs.Common.{ap, sym}
use Rattle.vst_base.specs.declared.step.Item.{Item}
use Rattle.vst_base.specs.declared.step.Item.TheVariants as item
use Rattle.vst_base.specs.declared.step.StepRefusal.{StepRefusal}
use Rattle.schedule_text.specs.Printing.{item_text}
use Rattle.schedule_text.specs.Words.{is_text}
use Rattle.check_text.specs.Claims.{item_line}
use Rattle.claim_verdicts.specs.Explaining.{explained_by}
use Rattle.claim_verdicts.specs.Places.{first_difference}
use Rattle.claim_verdicts.specs.Schedules.{ScheduleClaim, shown_lines}
use Rattle.claim_verdicts.specs.declared.verdict.Verdict.TheVariants.{Yes, No}

module _ {I O : Type 0} (f : I → List ℕ) (g : O → List ℕ) where
  below-first : (x : Item I O) → is_text (codes "below") (item_text f g x) ≡ false
  below-first (item.Input n i) = refl
  below-first (item.Output n o) = refl

  below-second : (x : Item I O) → is_text (item_text f g x) (codes "below") ≡ false
  below-second (item.Input n i) = refl
  below-second (item.Output n o) = refl

  -- no item looks like the line below a trace
  pub shown-same : (n : ℕ) (xs ys : List (Item I O)) → first_difference n (shown_lines f g xs) (shown_lines f g ys) ≡ first_difference n (map (item_text f g) xs) (map (item_text f g) ys)
  shown-same n [] [] = refl
  shown-same n [] (y ∷ ys) = rw (below-first y) refl
  shown-same n (x ∷ xs) [] = rw (below-second x) refl
  shown-same n (x ∷ xs) (y ∷ ys) = ap (λ o. cond (is_text (item_text f g x) (item_text f g y)) o (Some n)) (shown-same (n + 1) xs ys)

  module _ (c : ScheduleClaim I O) (first : Option (ℕ × StepRefusal)) (shown : List (Item I O)) (allowed : first ≡ None) where
    pub says-other : (p line : ℕ) → Some p ≡ first_difference 0 (map (item_text f g) c.trace) (map (item_text f g) shown) → line ≡ item_line p → No 5 line ≡ explained_by f g c first shown
    says-other p line is at = rw (allowed, shown-same 0 c.trace shown, sym is) (ap (No 5) at)

    pub says-same : None ≡ first_difference 0 (map (item_text f g) c.trace) (map (item_text f g) shown) → Yes ≡ explained_by f g c first shown
    says-same is = rw (allowed, shown-same 0 c.trace shown, sym is) refl
