use Rattle.std.proofs.Common.{inl, inr, sym, subst}
use Rattle.xform_stack.specs.Running.{HasRun}
use Rattle.schedule_replay.proofs.taking.take_step.Goals as goal

pub returns-in-Err-End-clause-took : goal.returns-in-Err-End-clause-took
returns-in-Err-End-clause-took g c = λ ss gone ran. (ran, λ rest has. rw c.in-Err-End.field-0-is at c.in-Err-End.ensures.told rest has)

pub returns-in-Err-Read-clause-took : goal.returns-in-Err-Read-clause-took
returns-in-Err-Read-clause-took g c =
    let cause = rw c.in-Err-Read.field-0-is at c.in-Err-Read.ensures.fault in
    λ ss gone ran. (ran, λ rest has. rw c.in-Err-Read.field-0-is at c.in-Err-Read.ensures.told rest has, cause.1)

pub returns-in-Err-Refused-clause-took : goal.returns-in-Err-Refused-clause-took
returns-in-Err-Refused-clause-took g c = λ ss gone ran. (ran, λ rest has. inl (rw c.in-Err-Refused.field-0-is at c.in-Err-Refused.ensures.told rest has))

pub returns-in-Ok-step-clause-took : goal.returns-in-Ok-step-clause-took
returns-in-Ok-step-clause-took g c = λ ss gone ran. (c.in-Ok.step, c.in-Ok-step.ensures.next ss gone ran, λ rest has. c.in-Ok.ensures.told rest has)

pub returns-in-Ok-clause-took : goal.returns-in-Ok-clause-took
returns-in-Ok-clause-took g c = λ ss gone ran.
    let r = g.R.Runs in
    let refused = rw c.in-Err-Refused-step.field-0-is at c.in-Err-Refused-step.ensures.refused ss gone ran in
    let same = (rw c.in-Err-Refused-step.field-0-is at c.in-Err-Refused-step.ensures.unchanged) (λ e. cc) in (
      subst (HasRun (r.played c.args.running.now) r.follows r.progress ss gone) (sym same) ran,
      λ rest has. inr (
        c.in-Ok.step,
        c.in-Err-Refused-step.why,
        c.in-Ok.ensures.told rest has,
        c.number.ensures,
        refused,
        c.why_of.ensures,
      ),
    )
