use Rattle.std.proofs.Common.{sym, subst, refl, Ok, ◌<◌}
use Rattle.std.specs.Prelude.{slice_get}
use Rattle.handler_trait.specs.Facts.{reboot_promises_of, rebootable_facts}
use Rattle.vst_base.specs.declared.step.TheConstants.{MAX_STEPS}
use Rattle.vst_base.specs.declared.step.Step.TheVariants as step
use Rattle.net_semantics.specs.Shown.{IsSoundState}
use Rattle.net_semantics.specs.ShownFail.{IsSoundFailBy, ShowsFailBy}
use Rattle.net_semantics.specs.TakingFail.{AnswersFailBy}
use Rattle.net_semantics.proofs.FailShowing.{fail_view}
use Rattle.net_semantics.proofs.FailTaken.{answers_crash, exists_node}
use Rattle.net_semantics.proofs.fail_world.FailWorld.take_crash.Goals as goal
use Rattle.lists.specs.Options.{of_some}

pub keep-requires : goal.keep-requires
keep-requires g c =
    let facts = rebootable_facts g.H.Handlers g.H.Rebootable in
    let u = c.self.inside.world in let kept = c.self.inside.stopped in
    let was : IsSoundFailBy facts (fail_view u kept) = subst (IsSoundFailBy facts) (sym c.self.view_is) c.requires.sound in
    let found = exists_node c.args.n (facts.meaning u.handlers).nodes c.in_ok-node.node (Ok c.in_ok-node.node) refl (rw c.handlers.ensures at c.in_ok-node.ensures) in
    let s = c.held_state-state.result.now in
    let state : IsSoundState (facts.sound u.handlers c.in_ok-node.node) (facts.spent u.handlers) u.taken s = of_some (IsSoundState (facts.sound u.handlers c.in_ok-node.node) (facts.spent u.handlers) u.taken) (slice_get u.states c.in_ok-node.node) s c.held_state-state.ensures (was.world.states c.in_ok-node.node) in
    rw c.handlers-2.ensures (record { sound = (c.in_ok-node.node, found.1, state.keeps) })

pub returns : goal.returns
returns g c =
    let facts = rebootable_facts g.H.Handlers g.H.Rebootable in
    let u = c.self.inside.world in let kept = c.self.inside.stopped in
    let was : IsSoundFailBy facts (fail_view u kept) = subst (IsSoundFailBy facts) (sym c.self.view_is) c.requires.sound in
    let found = exists_node c.args.n (facts.meaning u.handlers).nodes c.in_ok-node.node (Ok c.in_ok-node.node) refl (rw c.handlers.ensures at c.in_ok-node.ensures) in
    let k = c.in_ok-kept.kept in let s = c.held_state-state.result.now in
    let keeps = rw c.handlers-2.ensures at c.in_ok-kept.ensures.keeps in
    let fit = rw c.handlers-2.ensures at c.in_ok-kept.ensures.fits in
    subst (λ v. AnswersFailBy facts (step.Crash c.args.n) v (fail_view c.count_step.new.self c.stop.new.self) (Ok (tt {0}))) c.self.view_is
    (subst (λ n. AnswersFailBy facts (step.Crash n) (fail_view u kept) (fail_view c.count_step.new.self c.stop.new.self) (Ok (tt {0}))) found.0
    (answers_crash (reboot_promises_of facts u.handlers) u kept c.self.invariant was
    c.in_ok-node.node found.1 k s c.held_state-state.ensures keeps fit (subst (λ v. v.taken < MAX_STEPS) (sym c.self.view_is) c.requires.steps)
    tt c.count_step.new.self c.stop.new.self c.count_step.ensures c.stop.ensures
    (λ w sh. c.in_ok-up.ensures.up w (subst (λ v. ShowsFailBy facts v w) c.self.view_is sh))))
