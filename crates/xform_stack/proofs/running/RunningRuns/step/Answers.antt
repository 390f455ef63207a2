use Rattle.std.specs.Prelude.{length, Err}
use Rattle.std.proofs.Common.{ap, ◌∙◌}
use Rattle.std.proofs.lemmas.Result.{err_from_is_err_and}
use Rattle.xform_stack.proofs.More.{run_answer}
use Rattle.xform_stack.proofs.Stepping.{running-more, taken_of}
use Rattle.xform_stack.proofs.running.RunningRuns.step.Goals as goal

pub returns-in_err-step-clause-refused : goal.returns-in_err-step-clause-refused
returns-in_err-step-clause-refused g c = λ ss gone had.
    let has = rw (← c.self.view_is) at had in
    let w = g.W.Network in
    let f = g.F.Observer in
    let network = c.self.inside.network in
    let taken = taken_of w.within w.system w.follows w.progress f.has_followed f.has_looked (f.image_of (w.within network) (w.system network).recovery) network c.self.inside.image ss gone has in
    let p = err_from_is_err_and c.from_residual.result c.from_residual.ensures.1 in
    let y = c.in_err-step.field-0.0 in
    rw (← c.self.view_is, p.1, p.2) (run_answer (w.system network) ss c.args.step.now (Err y) has.allowed (c.in_err-step.ensures.refused ss taken))

pub returns-clause-next : goal.returns-clause-next
returns-clause-next g c = λ ss gone had.
    let w = g.W.Network in
    let f = g.F.Observer in
    let old = c.self.inside.network in
    rw (← c.self.view_is) (running-more w.within w.system w.follows w.progress f.has_followed f.has_looked (f.image_of (w.within old) (w.system old).recovery)
    old c.step.new.self c.self.inside.image c.follow.new.self c.look-look.result c.args.step.now (length c.items-before.result.now)
    c.step.ensures.system c.step.ensures.within (ap length (c.items-before.ensures ∙ c.trace.ensures))
    c.look-look.ensures c.in_ok-step.ensures.next c.in_ok-step.ensures.trace c.in_ok-follow.ensures ss gone (rw (← c.self.view_is) at had))
