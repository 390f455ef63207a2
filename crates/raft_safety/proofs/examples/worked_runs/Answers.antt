-- By what a map has at a number after a change.
use Rattle.std.proofs.Common.{◌≡◌, ℕ, List, [], ◌∷◌, ◌++◌, map, refl, ◌∙◌, arith}
use Rattle.std.specs.FinMap.{empty}
use Rattle.vst_base.specs.Examples.{counter}
use Rattle.vst_base.specs.LogExamples.{noop}
use Rattle.vst_base.specs.declared.entry.Entry.{Entry}
use Rattle.vst_base.specs.declared.step.Item.TheVariants as item
use Rattle.vst_base.specs.declared.step.Step.TheVariants as step
use Rattle.raft_clients.proofs.Lookups.{lookups}
use Rattle.raft_clients.specs.Sessions.{applied_all}
use Rattle.raft_xform.specs.Applying.{replies}
use Rattle.raft_safety.specs.Runs.{seen}
use Rattle.linearizability.specs.Examples.{asks, put}
use Rattle.raft_safety.specs.Examples.{asked_again, asked_once, five, started_again}
use Rattle.linearizability.specs.Linearizable.{Seen}
use Rattle.raft_safety.proofs.examples.worked_runs.Goals as goal

pub returns-clause-two_clients_told : goal.returns-clause-two_clients_told
returns-clause-two_clients_told c = simp lookups

pub returns-clause-told_by_the_lesser : goal.returns-clause-told_by_the_lesser
returns-clause-told_by_the_lesser c = simp lookups

-- what both nodes answer, and what they tell by it
abbrev first : List (Entry ℕ)
first = noop 1 ∷ five 1 0 ∷ []

abbrev second : List (Entry ℕ)
second = noop 1 ∷ five 1 0 ∷ noop 2 ∷ five 2 1 ∷ []

once : (applied_all counter 0 empty first).answers ≡ (five 1 0, 0) ∷ []
once = simp lookups

again : (applied_all counter 0 empty second).answers ≡ (five 1 0, 0) ∷ (five 2 1, 0) ∷ []
again = simp lookups

tells : List (Entry ℕ × ℕ) → List (Entry ℕ × ℕ) → Seen ℕ ℕ
tells xs ys = put (asks 7 1 5) ∷ (map (λ o. item.Output 0 o) (replies 0 xs) ++ item.Input 1 (asks 7 1 5) ∷ (map (λ o. item.Output 1 o) (replies 1 ys) ++ []))

told : seen counter 3 asked_again ≡ tells (applied_all counter 0 empty first).answers (applied_all counter 0 empty second).answers
unfolding tells
told = refl

pub returns-clause-told_the_same : goal.returns-clause-told_the_same
unfolding tells
returns-clause-told_the_same c = told ∙ (λ i. tells (once i) (again i))

pub returns-clause-other_moments : goal.returns-clause-other_moments
returns-clause-other_moments c = record { early = asked_once; late = step.Reboot 0 ∷ []; run = record { size = (omega arith, omega arith); allowed = refl }; first = refl; second = refl }

pub returns-clause-reached : goal.returns-clause-reached
returns-clause-reached c = record { steps = started_again; run = record { size = (omega arith, omega arith); allowed = refl }; is = refl }

pub returns-clause-moments_of_nine : goal.returns-clause-moments_of_nine
returns-clause-moments_of_nine c = record { early = []; late = step.Tick 0 ∷ []; run = record { size = (omega arith, omega arith); allowed = refl }; first = refl; second = refl }
