use Rattle.std.proofs.Common.{◌≡◌, [], ◌∷◌, arith, refl, true}
use Rattle.std.proofs.lemmas.Bool.Decides.{nat_tests}
use Rattle.std.specs.FinSet as set
use Rattle.std.specs.Ordering.{nat_cmp}
use Rattle.number_set.specs.NumberSetLaws.{nothing-marked, set_tests}
use Rattle.number_set.proofs.Rows.{all-marked, all_but_one-marked, by-numbers, kept-none, kept-one, kept-two}
use Rattle.number_set.proofs.examples.worked.Goals as goal

pub returns-clause-nothing : goal.returns-clause-nothing
returns-clause-nothing c = nothing-marked

pub returns-clause-in_order : goal.returns-clause-in_order
returns-clause-in_order c = by-numbers 2 [] _ (λ q. simp set_tests (grind (arith, nat_tests))) (kept-none 2 (omega arith))

pub returns-clause-early : goal.returns-clause-early
returns-clause-early c = by-numbers 0 (1 ∷ []) _ (λ q. simp set_tests (grind (arith, nat_tests))) (kept-one 0 1 (omega arith) (record { from = omega arith; above = λ _. omega arith }))

pub returns-clause-closed : goal.returns-clause-closed
returns-clause-closed c = by-numbers 2 [] _ (λ q. simp set_tests (grind (arith, nat_tests))) (kept-none 2 (omega arith))

pub returns-clause-apart : goal.returns-clause-apart
returns-clause-apart c = by-numbers 1 (4 ∷ 7 ∷ []) _ (λ q. simp set_tests (grind (arith, nat_tests))) (kept-two 1 4 7 (omega arith) (omega arith) (omega arith))

pub returns-clause-all_but_one : goal.returns-clause-all_but_one
returns-clause-all_but_one c = all_but_one-marked

pub returns-clause-all : goal.returns-clause-all
returns-clause-all c = all-marked

pub returns-clause-closed_too_early : goal.returns-clause-closed_too_early
returns-clause-closed_too_early c = λ h. let there = simp set_tests at (h.below 1 (omega arith)) in cc

pub returns-clause-one_too_far : goal.returns-clause-one_too_far
returns-clause-one_too_far c = λ h. let there = simp set_tests at (h.below 1 (omega arith)) in cc

pub returns-clause-left_out : goal.returns-clause-left_out
returns-clause-left_out c = λ h. let there : set.contains (set.insert (set.empty {R = nat_cmp}) 1) 1 ≡ true = simp set_tests in absurd (omega (arith, ((h.listed 1).1 (omega arith, there)).1))

pub returns-clause-not_there : goal.returns-clause-not_there
returns-clause-not_there c = λ h. let there = simp set_tests at (((h.listed 2).0 (1, omega arith, refl)).1) in cc
