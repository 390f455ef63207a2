use Rattle.std.proofs.Common.{sym, subst, ap, refl, Ok, Err, Some, ◌∙◌, ◌<◌, ◌≡◌}
use Rattle.std.specs.Prelude.{slice_get}
use Rattle.handler_trait.specs.Facts.{reboot_promises_of, rebootable_facts}
use Rattle.vst_base.specs.declared.step.TheConstants.{MAX_STEPS}
use Rattle.vst_base.specs.declared.step.Step.TheVariants as step
use Rattle.vst_base.specs.declared.step.StepRefusal.TheVariants as refusal
use Rattle.net_semantics.specs.declared.fault.StepFault.TheVariants as fault
use Rattle.net_semantics.specs.ShownFail.{IsSoundFailBy, kept_at}
use Rattle.net_semantics.specs.TakingFail.{AnswersFailBy}
use Rattle.net_semantics.proofs.FailShowing.{fail_view}
use Rattle.net_semantics.proofs.FailTaken.{answers_reboot, answers_reboot_up, exists_node}
use Rattle.net_semantics.proofs.fail_world.FailWorld.take_reboot.Goals as goal
use Rattle.lists.specs.Options.{of_some}

pub returns-in_default : goal.returns-in_default
returns-in_default g c =
    let facts = rebootable_facts g.H.Handlers g.H.Rebootable in
    let u = c.self.inside.world in let kept = c.self.inside.stopped in
    let was : IsSoundFailBy facts (fail_view u kept) = subst (IsSoundFailBy facts) (sym c.self.view_is) c.requires.sound in
    let found = exists_node c.args.n (facts.meaning u.handlers).nodes c.in_ok-node.node (Ok c.in_ok-node.node) refl (rw c.handlers.ensures at c.in_ok-node.ensures) in
    subst (λ v. AnswersFailBy facts (step.Reboot c.args.n) v (fail_view u c.start.new.self) (Err (fault.Refused refusal.NodeUp))) c.self.view_is
    (subst (λ n. AnswersFailBy facts (step.Reboot n) (fail_view u kept) (fail_view u c.start.new.self) (Err (fault.Refused refusal.NodeUp))) found.0
    (answers_reboot_up (reboot_promises_of facts u.handlers) u kept c.self.invariant was
    c.in_ok-node.node found.1 c.start.new.self (sym c.start.ensures.kept ∙ c.in_default.is) c.start.ensures.up))

pub returns : goal.returns
returns g c =
    let facts = rebootable_facts g.H.Handlers g.H.Rebootable in
    let u = c.self.inside.world in let kept = c.self.inside.stopped in
    let was : IsSoundFailBy facts (fail_view u kept) = subst (IsSoundFailBy facts) (sym c.self.view_is) c.requires.sound in
    let found = exists_node c.args.n (facts.meaning u.handlers).nodes c.in_ok-node.node (Ok c.in_ok-node.node) refl (rw c.handlers.ensures at c.in_ok-node.ensures) in
    let k = c.in-Some.kept in let s = c.in_ok-state.state in
    let stopped : kept_at (slice_get kept c.in_ok-node.node) ≡ Some k = sym c.start.ensures.kept ∙ c.in-Some.is in
    let fit = of_some (facts.fits u.handlers) (kept_at (slice_get kept c.in_ok-node.node)) k stopped (was.stopped c.in_ok-node.node) in
    let starts = rw c.handlers-2.ensures at c.in_ok-state.ensures.reboots in
    let ok = rw c.handlers-2.ensures at c.in_ok-state.ensures.sound in
    let fresh = ap (facts.spent u.handlers) starts ∙ g.met.H.Rebootable.rebooted_fresh u.handlers c.in_ok-node.node k found.1 fit in
    subst (λ v. AnswersFailBy facts (step.Reboot c.args.n) v (fail_view c.restart.new.self c.start.new.self) (Ok (tt {0}))) c.self.view_is
    (subst (λ n. AnswersFailBy facts (step.Reboot n) (fail_view u kept) (fail_view c.restart.new.self c.start.new.self) (Ok (tt {0}))) found.0
    (answers_reboot (reboot_promises_of facts u.handlers) u kept c.self.invariant was
    c.in_ok-node.node found.1 k s stopped starts ok fresh (subst (λ v. v.taken < MAX_STEPS) (sym c.self.view_is) c.requires.steps)
    tt c.restart.new.self c.start.new.self c.restart.ensures c.start.ensures.up))
