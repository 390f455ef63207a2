use Rattle.std.specs.Prelude.{◌-◌, drop, length, take, ◌++◌, ◌∷◌, []}
use Rattle.std.proofs.lemmas.List.{take_rest}
use Rattle.std.proofs.Common.{ap, sym, ◌∙◌}
use Rattle.std.proofs.lemmas.Result.{on_ok_weaker}
use Rattle.net_semantics.specs.Runs.{first_refused, run}
use Rattle.net_semantics.specs.Steps.{items_of}
use Rattle.fifo_observer.specs.Channels.{ends_in}
use Rattle.fifo_observer.proofs.Following.{followed-more}
use Rattle.fifo_observer.proofs.in_order.InOrderObserverFifo.follow.Goals as goal

pub returns : goal.returns
returns g c = on_ok_weaker c.see.result (λ sees ss had looked taken is.
    let net = c.args.network.now in
    let sys = g.W.Network.system net in
    let m = g.H.Handlers.meaning (g.W.Network.within net) in
    let means = g.met.W.Network.same_meaning net in
    let same = ap (λ x. x.recovery) c.requires.fits in
    let longer = ss ++ c.args.step.now ∷ [] in
    let items = c.items-items.result.now in
    followed-more m g.F.TraceMap.has_followed sys.recovery same sys.net ss c.args.step.now c.self.inside.map c.take_within.new.map c.see.new.self c.self.inside.channels c.catch_up.new.channels
    c.args.look (take (length items - c.args.before) (drop c.args.before items)) c.in_ok-take_within.ensures sees
    (λ es more e. c.in_ok-catch_up.ensures longer es more taken.followed (ap (λ x. ends_in (run x sys.recovery longer).packets) means ∙ e))
    (rw (← c.self.view_is) at had) looked (ap (λ x. first_refused sys.net x sys.recovery longer) (sym means) ∙ taken.allowed)
    (take_rest items c.args.before ∙ (ap (λ xs. drop c.args.before xs) (c.items-items.ensures ∙ c.trace.ensures) ∙ (is ∙ ap (λ x. items_of x (run x sys.recovery ss) c.args.step.now) means)))) c.see.ensures
