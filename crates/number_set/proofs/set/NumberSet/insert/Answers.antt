use Rattle.std.proofs.Common.{◌+◌, ap, arith, sym, ◌∙◌}
use Rattle.std.proofs.lemmas.Result.{on_ok_weaker}
use Rattle.std.specs.FinSet as set
use Rattle.number_set.specs.Members.{GoesTo, IsPast, members}
use Rattle.number_set.proofs.Members.{has-below, has-listed, has-not, insert-again, members-insert, members-pass}
use Rattle.number_set.proofs.Rising.{kept-drop, kept-either}
use Rattle.number_set.proofs.set.NumberSet.insert.Goals as goal

pub returns-then-n-self-clause-ok : goal.returns-then-n-self-clause-ok
returns-then-n-self-clause-ok c =
    sym (insert-again c.args.self.now c.args.n (has-below c.self.inside.mark c.self.inside.above c.args.self.now c.args.n c.self.view_is c.if-n-self.true))

-- the mark passes the number and those that follow it
pub invariant_of-self : goal.invariant_of-self
invariant_of-self c =
    let run = c.run_from-closed in
    rw (c.drop_front.ensures, ← c.numbers.ensures) (
    kept-drop c.self.inside.mark (c.args.n + 1) run.result c.numbers.result.now (rw c.numbers.ensures c.self.invariant) (omega arith) (omega arith) run.ensures.fits run.ensures.within
    run.ensures.gap
    )

pub returns-then-n-lt-GREATEST-clause-ok : goal.returns-then-n-lt-GREATEST-clause-ok
returns-then-n-lt-GREATEST-clause-ok c =
    let run = c.run_from-closed in
    rw (c.drop_front.ensures, ← c.numbers.ensures) (
    members-pass c.self.inside.mark (c.args.n + 1) run.result c.numbers.result.now (omega arith) run.ensures.within run.ensures.no_gap
    ∙ (ap (λ xs. set.insert (members c.self.inside.mark xs) c.self.inside.mark) c.numbers.ensures
    ∙ (ap (λ s. set.insert s c.self.inside.mark) c.self.view_is ∙ ap (λ n. set.insert c.args.self.now n) (sym c.if-n-self-2.true)))
    )

-- a number that stands in the list already
pub returns-in-Ok-clause-ok : goal.returns-in-Ok-clause-ok
returns-in-Ok-clause-ok c =
    let stands = ap (λ xs. members c.self.inside.mark xs) c.numbers-2.ensures ∙ c.self.view_is in
    sym (insert-again c.args.self.now c.args.n (
    has-listed c.self.inside.mark c.numbers-2.result.now c.args.self.now c.args.n c.in-Ok.field-0 stands c.in-Ok.ensures.stands c.in-Ok.ensures.found
    ))

-- a number that is new in the list
pub invariant_of-self-in-Err : goal.invariant_of-self-in-Err
invariant_of-self-in-Err c =
    let goes : GoesTo c.self.inside.above c.args.n c.in-Err.i = rw (← c.numbers-2.ensures) c.in-Err.ensures.goes in
    let past : IsPast c.self.inside.mark c.args.n = record { from = c.if-n-self.false; above = λ lt. omega (arith, c.else-n-self-2.either) } in
    kept-either c.self.inside.mark c.args.n c.in-Err.i c.self.inside.above c.insert.new.self c.insert.result c.insert.ensures.ok c.insert.ensures.err c.self.invariant past goes

pub returns-in-Err-clause-ok : goal.returns-in-Err-clause-ok
returns-in-Err-clause-ok c = on_ok_weaker c.insert.result (λ e.
    ap (λ xs. members c.self.inside.mark xs) e ∙ (members-insert c.self.inside.mark c.self.inside.above c.in-Err.i c.args.n ∙ ap (λ s. set.insert s c.args.n) c.self.view_is)) c.insert.ensures.ok

pub returns-in-Err-clause-succeeds : goal.returns-in-Err-clause-succeeds
returns-in-Err-clause-succeeds c = λ there.
    let stands = ap (λ xs. members c.self.inside.mark xs) c.numbers-2.ensures ∙ c.self.view_is in
    let lacks = has-not c.self.inside.mark c.numbers-2.result.now c.args.self.now c.args.n c.in-Err.i stands c.if-n-self.false c.in-Err.ensures.goes in
    cc
