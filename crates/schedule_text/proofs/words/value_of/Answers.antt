use Rattle.std.proofs.Common.{arith}
use Rattle.schedule_text.proofs.NumberLaws.{value_from-within}
use Rattle.schedule_text.proofs.words.value_of.Goals as goal

pub returns-in_err-checked_mul : goal.returns-in_err-checked_mul
returns-in_err-checked_mul c =
    let l = c.loop-digit in
    let within = value_from-within l.value l.digit-index c.args.most c.args.digits.now c.loop-digit-test.true l.invariant.rest in
    rw c.from_residual.ensures (λ small. c.in_err-checked_mul.ensures (omega (arith, within small)))

pub returns-in_err-value : goal.returns-in_err-value
returns-in_err-value c =
    let l = c.loop-digit in
    let within = value_from-within l.value l.digit-index c.args.most c.args.digits.now c.loop-digit-test.true l.invariant.rest in
    rw c.from_residual-in_err-value.ensures (λ small. c.in_err-value.ensures (omega (arith, within small)))

pub returns-then-value-most : goal.returns-then-value-most
returns-then-value-most c =
    let l = c.loop-digit in
    let within = value_from-within l.value l.digit-index c.args.most c.args.digits.now c.loop-digit-test.true l.invariant.rest in
    λ small. omega (arith, within small)
