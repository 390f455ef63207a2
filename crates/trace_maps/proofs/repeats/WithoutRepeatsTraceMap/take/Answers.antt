use Rattle.std.proofs.Common.{sym, ◌∙◌, refl}
use Rattle.std.proofs.lemmas.Result.{on_ok_weaker}
use Rattle.net_semantics.specs.Once.{once}
use Rattle.trace_maps.proofs.Follows.{follows-repeat, follows-first}
use Rattle.trace_maps.proofs.repeats.WithoutRepeatsTraceMap.take.Goals as goal

pub returns-then-branch : goal.returns-then-branch
returns-then-branch g c = λ ss items had.
    follows-repeat (λ rest left. g.F.TraceMap.has_followed rest left items) _ _ ss c.args.step.now c.in_ok-is_repeat.ensures.delivered (rw (← c.self.view_is) at had)
    (sym c.in_ok-is_repeat.ensures.repeat ∙ c.if-branch.true) refl

pub returns : goal.returns
returns g c = on_ok_weaker c.take.result (λ taken ss items had.
    let has = rw (← c.self.view_is) at had in
    follows-first (λ rest left. g.F.TraceMap.has_followed rest left items) _ _ ss c.args.step.now c.in_ok-is_repeat.ensures.delivered has
    (sym c.in_ok-is_repeat.ensures.repeat ∙ c.if-branch.false) (taken (once ss) items has.rest)) c.take.ensures
