use Rattle.std.specs.Prelude.{◌-◌, ℕ, Bool, Option, drop, length, take, ◌++◌, ◌∷◌, []}
use Rattle.std.proofs.Common.{ap, subst, sym, ◌∙◌}
use Rattle.std.proofs.lemmas.Result.{on_ok_weaker}
use Rattle.lists.specs.Places.{take_rest}
use Rattle.net_semantics.specs.Runs.{first_refused, run}
use Rattle.net_semantics.specs.Steps.{items_of}
use Rattle.retry_observer.specs.Places.{ComeAfter, numbers_in}
use Rattle.retry_observer.proofs.Following.{followed-more}
use Rattle.retry_observer.proofs.resent.ResentObserverRetry.follow.Goals as goal

pub returns : goal.returns
returns g c = on_ok_weaker c.see.result (λ sees ss had found taken is.
    let net = c.args.network.now in
    let sys = g.W.Network.system net in
    let m = g.H.Handlers.meaning (g.W.Network.within net) in
    let means = g.met.W.Network.same_meaning net in
    let same = ap (λ x. x.recovery) c.requires.fits in
    let longer = ss ++ c.args.step.now ∷ [] in
    let items = c.items-items.result.now in
    followed-more m g.F.TraceMap.has_followed sys.net ss c.args.step.now c.self.inside.map c.take_within.new.map c.see.new.self c.self.inside.places c.catch_up.new.places
    c.args.looked (take (length items - c.args.before) (drop c.args.before items)) c.in_ok-take_within.ensures sees sys.recovery same
    (λ bs more e come. c.in_ok-catch_up.ensures longer bs more taken.followed (ap (λ x. numbers_in (run x sys.recovery longer).packets) means ∙ e)
    (subst (λ (x : Bool × Option ℕ). ComeAfter (length bs) x.0 x.1 (bs ++ more)) (λ i. (sym c.is_some.ensures i, sym c.last_carries-carried.ensures i)) come))
    (rw (← c.self.view_is) at had) found (ap (λ x. first_refused sys.net x sys.recovery longer) (sym means) ∙ taken.allowed)
    (take_rest c.args.before items ∙ (ap (λ xs. drop c.args.before xs) (c.items-items.ensures ∙ c.trace.ensures) ∙ (is ∙ ap (λ x. items_of x (run x sys.recovery ss) c.args.step.now) means)))) c.see.ensures
