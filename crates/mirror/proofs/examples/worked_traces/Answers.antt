use Rattle.std.specs.Prelude.{refl}
use Rattle.std.proofs.Common.{arith, inl, inr}
use Rattle.std.proofs.lemmas.Bool.{cases_eq, eq-eqb, ne_eqb}
use Rattle.mirror.proofs.examples.worked_traces.Goals as goal

pub returns-clause-first_said : goal.returns-clause-first_said
returns-clause-first_said c a = elim (cases_eq 1 a) [
  | inl same ↦ rw (eq-eqb 1 a same) refl
  | inr ne ↦ rw (ne_eqb 1 a ne) refl
]

pub returns-clause-two_senders : goal.returns-clause-two_senders
returns-clause-two_senders c a = elim (cases_eq 1 a) [
  | inl same ↦ rw (eq-eqb 1 a same, ne_eqb 2 a (λ e. omega (arith, same, e))) refl
  | inr ne ↦ elim (cases_eq 2 a) [
    | inl same ↦ rw (ne_eqb 1 a ne, eq-eqb 2 a same) refl
    | inr other ↦ rw (ne_eqb 1 a ne, ne_eqb 2 a other) refl
  ]
]

pub returns-clause-swapped : goal.returns-clause-swapped
returns-clause-swapped c = λ all. let e = all 1 in cc

pub returns-clause-second_alone : goal.returns-clause-second_alone
returns-clause-second_alone c = λ all. let e = all 1 in cc

pub returns-clause-said_twice : goal.returns-clause-said_twice
returns-clause-said_twice c = λ all. let e = all 1 in cc

pub returns-clause-of_another_sender : goal.returns-clause-of_another_sender
returns-clause-of_another_sender c = λ all. let e = all 2 in cc

pub returns-clause-never_put : goal.returns-clause-never_put
returns-clause-never_put c = λ all. let e = all 1 in cc
