use Rattle.std.specs.Prelude.{◌-◌, drop, length, take}
use Rattle.std.proofs.lemmas.List.{take_rest}
use Rattle.std.proofs.Common.{ap, ◌∙◌}
use Rattle.std.proofs.lemmas.Result.{on_ok_weaker}
use Rattle.xform_stack.proofs.Stepping.{mapped-more}
use Rattle.xform_stack.proofs.mapped.MappedObserver.follow.Goals as goal

pub returns : goal.returns
returns g c = on_ok_weaker c.see.result (λ sees ss had looked taken is.
    let net = c.args.network.now in
    mapped-more g.T.TraceMap.has_followed (g.H.Handlers.meaning (g.W.Network.within net)) (g.W.Network.system net).meaning (g.W.Network.system net).recovery (g.met.W.Network.same_meaning net)
    c.self.inside.map c.take.new.self c.see.new.self ss c.args.step.now (take (length c.items-items.result.now - c.args.before) (drop c.args.before c.items-items.result.now))
    c.in_ok-take.ensures sees (rw (← c.self.view_is) at had) (take_rest c.items-items.result.now c.args.before ∙ ap (λ xs. drop c.args.before xs) (c.items-items.ensures ∙ c.trace.ensures) ∙ is)) c.see.ensures
