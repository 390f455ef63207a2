use Rattle.std.specs.Prelude.{◌≡◌, ℕ, zero, suc, ◌+◌, ◌≤◌, ◌==◌, ◌&&◌, true, List, [], ◌∷◌, length, take, Option, Some, slice_get, refl}
use Rattle.std.proofs.Common.{ap, arith, sym, subst, ◌∙◌}
use Rattle.std.proofs.lemmas.Option.{none-some, same_Some}
use Rattle.retry_observer.specs.Places.{Comes, IsNew, named, numbers_at, up_to}
use Rattle.retry_observer.proofs.examples.worked.Goals as goal

-- the number of new data is how many its source had sent
how-many : (bs : List (ℕ × Option ℕ)) (n x : ℕ) → IsNew bs n (Some x) → numbers_at n (named bs) ≡ up_to x
how-many bs n x new = new.next ∙ ap up_to (sym (same_Some x new.number new.is))

pub returns-clause-new : goal.returns-clause-new
returns-clause-new c = record { number = 1; is = refl; next = refl }

pub returns-clause-new_of_another_node : goal.returns-clause-new_of_another_node
returns-clause-new_of_another_node c = record { number = 0; is = refl; next = refl }

pub returns-clause-not_sent_again : goal.returns-clause-not_sent_again
returns-clause-not_sent_again c = λ h. omega (arith, ap length (how-many ((1, Some 0) ∷ (2, Some 0) ∷ []) 1 0 h))

pub returns-clause-not_too_early : goal.returns-clause-not_too_early
returns-clause-not_too_early c = λ h. omega (arith, ap length (how-many ((1, Some 0) ∷ (2, Some 0) ∷ []) 1 2 h))

pub returns-clause-no_acknowledgement : goal.returns-clause-no_acknowledgement
returns-clause-no_acknowledgement c = λ h. none-some h.number h.is

pub returns-clause-known : goal.returns-clause-known
returns-clause-known c = record { carries = refl; same = refl }

pub returns-clause-acknowledges : goal.returns-clause-acknowledges
returns-clause-acknowledges c = record { carries = refl; same = refl }

pub returns-clause-carries_another : goal.returns-clause-carries_another
returns-clause-carries_another c = λ h. omega (arith, same_Some 1 0 h.carries)

pub returns-clause-no_data : goal.returns-clause-no_data
returns-clause-no_data c = λ h. none-some 0 h.carries

pub returns-clause-not_known : goal.returns-clause-not_known
returns-clause-not_known c = λ h. omega (arith, ap length h.same)

pub returns-clause-last_is_known : goal.returns-clause-last_is_known
returns-clause-last_is_known c = come where
  come : (k n : ℕ) (o : Option ℕ) → 1 ≤ k → slice_get {X = ℕ × Option ℕ} ((1, Some 0) ∷ (1, Some 1) ∷ (1, Some 0) ∷ []) k ≡ Some (n, o)
      → Comes (true && (k + 1 == 3)) (Some 0) (take k ((1, Some 0) ∷ (1, Some 1) ∷ (1, Some 0) ∷ [])) n o
  come zero n o le at = absurd (omega (arith, le))
  come (suc zero) n o le at = subst (λ (b : ℕ × Option ℕ). IsNew ((1, Some 0) ∷ []) b.0 b.1) (same_Some (1, Some 1) (n, o) at) (record { number = 1; is = refl; next = refl })
  come (suc (suc zero)) n o le at =
      subst (λ (b : ℕ × Option ℕ). Comes true (Some 0) ((1, Some 0) ∷ (1, Some 1) ∷ []) b.0 b.1) (same_Some (1, Some 0) (n, o) at) (record { carries = refl; same = refl })
  come (suc (suc (suc k))) n o le at = absurd (none-some (n, o) at)

pub returns-clause-last_is_not_new : goal.returns-clause-last_is_not_new
returns-clause-last_is_not_new c = λ h. omega (arith, ap length (how-many ((1, Some 0) ∷ (1, Some 1) ∷ []) 1 0 (h 2 1 (Some 0) (omega arith) refl)))

pub returns-clause-not_the_one_before : goal.returns-clause-not_the_one_before
returns-clause-not_the_one_before c = λ h. omega (arith, ap length (how-many ((1, Some 0) ∷ []) 1 0 (h 1 1 (Some 0) (omega arith) refl)))
