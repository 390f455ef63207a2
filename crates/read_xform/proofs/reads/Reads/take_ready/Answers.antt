use Rattle.std.proofs.Common.{◌∙◌, ap, sym, get_or, true, false}
use Rattle.read_xform.specs.Rounds.{may_answer}
use Rattle.read_xform.proofs.Fronts.{blocked_first, ready_first, seen_ready}
use Rattle.read_xform.proofs.reads.Reads.take_ready.Goals as goal

pub returns-then-ready-clause-ready : goal.returns-then-ready-clause-ready
returns-then-ready-clause-ready g c =
    let x = c.in_ok-first.first.now in
    ready_first (may_answer c.args.me c.args.applied c.args.self.now) c.args.self.now.waiting c.pop_front.new.self.items x c.pop_front.result
    (c.in_ok-first.ensures.lookup ∙ ap (λ v. get_or v.waiting 0 x) c.self.view_is)
    (seen_ready c.args.me c.args.applied c.args.self.now c.deref.result.now x c.is_ready-ready.result true (c.deref.ensures.value ∙ ap (λ v. v.acked) c.self.view_is)
    c.is_ready-ready.ensures c.if-ready.true) (sym (ap (λ v. v.waiting) c.self.view_is) ∙ c.pop_front.ensures.items)

pub returns-clause-blocked : goal.returns-clause-blocked
returns-clause-blocked g c =
    let x = c.in_ok-first.first.now in
    blocked_first (may_answer c.args.me c.args.applied c.args.self.now) c.args.self.now.waiting x
    (c.in_ok-first.ensures.lookup ∙ ap (λ v. get_or v.waiting 0 x) c.self.view_is)
    (seen_ready c.args.me c.args.applied c.args.self.now c.deref.result.now x c.is_ready-ready.result false (c.deref.ensures.value ∙ ap (λ v. v.acked) c.self.view_is)
    c.is_ready-ready.ensures c.if-ready.false)
