use Rattle.std.proofs.Common.{sym, subst}
use Rattle.std.specs.Prelude.{OnOk}
use Rattle.handler_trait.specs.Facts.{promises_of, reboot_promises_of, rebootable_facts}
use Rattle.net_semantics.specs.Worlds.{World}
use Rattle.net_semantics.specs.Steps.{next}
use Rattle.net_semantics.specs.Runs.{no_recovery}
use Rattle.net_semantics.specs.Shown.{IsSound, Shows}
use Rattle.net_semantics.specs.ShownFail.{IsSoundFailBy, ShowsFailBy}
use Rattle.net_semantics.specs.TakingFail.{AnswersFailBy}
use Rattle.net_semantics.proofs.FailShowing.{fail_view}
use Rattle.net_semantics.proofs.FailTaken.{answers_shared}
use Rattle.net_semantics.proofs.fail_world.FailWorld.pass_on.Goals as goal

pub returns-clause-answers : goal.returns-clause-answers
returns-clause-answers g c =
    let facts = rebootable_facts g.H.Handlers g.H.Rebootable in
    let u = c.self.inside.world in let kept = c.self.inside.stopped in
    subst (λ v. AnswersFailBy facts c.args.step.now v (fail_view c.step.new.self kept) c.step.result) c.self.view_is
    (answers_shared (reboot_promises_of facts u.handlers) u c.step.new.self kept c.args.step.now c.requires.kind c.self.invariant
    (subst (IsSoundFailBy facts) (sym c.self.view_is) c.requires.sound)
    (λ w sh. c.in_ok-acting_up.ensures.up w (subst (λ v. ShowsFailBy facts v w) c.self.view_is sh))
    c.step.ensures.handlers c.step.result c.step.ensures.refused c.step.ensures.unchanged
    (subst (λ h. OnOk c.step.result ((w : World _ _ _) → Shows (facts.meaning u.handlers).nodes u w → Shows (facts.meaning h).nodes c.step.new.self (next (facts.meaning u.handlers) no_recovery w c.args.step.now))) c.step.ensures.handlers c.step.ensures.next)
    c.step.ensures.trace c.step.ensures.trace_grows c.step.ensures.taken
    (subst (λ h. OnOk c.step.result (IsSound (promises_of g.H.Handlers h) c.step.new.self)) c.step.ensures.handlers c.step.ensures.sound))
