-- A check of which a read failed.
use Rattle.std.proofs.Common.{codes, refl, arith}
use Rattle.trace_check.proofs.outcome_examples.worked_outcomes.Goals as goal

pub returns-clause-broke_off : goal.returns-clause-broke_off
returns-clause-broke_off c =
    (codes "below\ntick", record { rest' = codes " 0\n"; left_is = refl; whole = refl; short = omega arith }, refl)
