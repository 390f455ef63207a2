use Rattle.std.proofs.Common.{[], ◌∷◌, refl, arith}
use Rattle.vst_base.specs.declared.lock.LockInput.TheVariants as ask
use Rattle.vst_base.specs.declared.lock.LockOutput.TheVariants as told
use Rattle.vst_base.specs.declared.step.Item.TheVariants as item
use Rattle.lock_server.proofs.KeepingOut.{excludes, nothing_contains, contains_one}
use Rattle.lock_server.proofs.examples.worked_exclusion.Goals as goal

pub returns-clause-unlocked_between : goal.returns-clause-unlocked_between
returns-clause-unlocked_between c = excludes _ (λ other. absurd (other refl), (tt, tt))

pub returns-clause-no_other_client : goal.returns-clause-no_other_client
returns-clause-no_other_client c = excludes _ ((refl, tt), (tt, tt))

pub returns-clause-two_in_a_row : goal.returns-clause-two_in_a_row
returns-clause-two_in_a_row c h = nothing_contains _ (h 1 2 [] [] [] (omega arith) refl)

pub returns-clause-unlocked_by_another : goal.returns-clause-unlocked_by_another
returns-clause-unlocked_by_another c h = let e = contains_one _ _ (h 1 2 [] (item.Input 2 ask.Unlock ∷ []) [] (omega arith) refl) in cc

pub returns-clause-unlocked_before : goal.returns-clause-unlocked_before
returns-clause-unlocked_before c h = nothing_contains _ (h 1 2 (item.Input 1 ask.Unlock ∷ []) [] [] (omega arith) refl)

pub returns-clause-unlocked_after : goal.returns-clause-unlocked_after
returns-clause-unlocked_after c h = nothing_contains _ (h 1 2 [] [] (item.Input 1 ask.Unlock ∷ []) (omega arith) refl)

pub returns-clause-asked_between : goal.returns-clause-asked_between
returns-clause-asked_between c h = let e = contains_one _ _ (h 1 2 [] (item.Input 1 ask.Lock ∷ []) [] (omega arith) refl) in cc

pub returns-clause-copied_breaks_it : goal.returns-clause-copied_breaks_it
returns-clause-copied_breaks_it c h = nothing_contains _ (h 2 1 (item.Input 1 ask.Lock ∷ item.Input 2 ask.Lock ∷ item.Output 1 told.Locked ∷ item.Input 1 ask.Unlock ∷ []) [] [] (omega arith) refl)
