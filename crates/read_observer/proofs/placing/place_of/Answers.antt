use Rattle.std.proofs.Common.{◌≡◌, ◌<◌, Some, None, cond, ltb, refl, sym, ap, subst, ◌∙◌}
use Rattle.net_semantics.specs.Runs.{run}
use Rattle.net_semantics.specs.Worlds.{ends}
use Rattle.vst_base.specs.declared.step.Step.TheVariants as step
use Rattle.read_observer.specs.Observed.{IsPlace, cluster_in}
use Rattle.read_observer.proofs.Events.{delivery_place, named_place}
use Rattle.read_observer.proofs.placing.place_of.Goals as goal

pub returns-in-In : goal.returns-in-In
returns-in-In g c = λ ss taken.
    let net = c.args.network.now in
    let h = g.W.Network.within net in
    let r = (g.W.Network.system net).recovery in
    let cluster = cluster_in (g.M.Machine.meaning h.machine) (g.M.Queries.reads h.machine) h.nodes in
    let nodes : c.nodes-nodes.result ≡ h.nodes = c.nodes-nodes.ensures ∙ ap (λ x. x.nodes) c.handlers.ensures in
    let is = c.node_numbered.ensures ∙ ap (λ k. cond (ltb c.in-In.n k) (Some c.in-In.n) None) nodes in
    subst (λ s. IsPlace cluster r c.node_numbered.result ss s) (sym c.in-In.is) (named_place cluster r ss _ c.in-In.n c.node_numbered.result refl refl is)

pub returns-in-Tick : goal.returns-in-Tick
returns-in-Tick g c = λ ss taken.
    let net = c.args.network.now in
    let h = g.W.Network.within net in
    let r = (g.W.Network.system net).recovery in
    let cluster = cluster_in (g.M.Machine.meaning h.machine) (g.M.Queries.reads h.machine) h.nodes in
    let nodes : c.nodes-nodes.result ≡ h.nodes = c.nodes-nodes.ensures ∙ ap (λ x. x.nodes) c.handlers.ensures in
    let is = c.node_numbered-in-Tick.ensures ∙ ap (λ k. cond (ltb c.in-Tick.n k) (Some c.in-Tick.n) None) nodes in
    subst (λ s. IsPlace cluster r c.node_numbered-in-Tick.result ss s) (sym c.in-Tick.is) (named_place cluster r ss (step.Tick c.in-Tick.n) c.in-Tick.n c.node_numbered-in-Tick.result refl refl is)

pub returns-in_err-found-in-Deliver : goal.returns-in_err-found-in-Deliver
returns-in_err-found-in-Deliver g c = λ ss taken.
    let net = c.args.network.now in
    let h = g.W.Network.within net in
    let r = (g.W.Network.system net).recovery in
    let means = g.met.W.Network.same_meaning net in
    let cluster = cluster_in (g.M.Machine.meaning h.machine) (g.M.Queries.reads h.machine) h.nodes in
    let at = c.in_err-found-in-Deliver.ensures.ends ss taken.followed ∙ ap (λ m. ends (run m r ss) c.in-Deliver.k) means in
    subst (λ o. IsPlace cluster r o ss c.args.step.now) (sym c.from_residual.ensures)
    (subst (λ s. IsPlace cluster r None ss s) (sym c.in-Deliver.is) (delivery_place cluster r ss c.in-Deliver.k None at tt))

pub returns-in_ok-found-in-Deliver : goal.returns-in_ok-found-in-Deliver
returns-in_ok-found-in-Deliver g c = λ ss taken.
    let net = c.args.network.now in
    let h = g.W.Network.within net in
    let r = (g.W.Network.system net).recovery in
    let means = g.met.W.Network.same_meaning net in
    let cluster = cluster_in (g.M.Machine.meaning h.machine) (g.M.Queries.reads h.machine) h.nodes in
    let found = c.in_ok-found-in-Deliver.found in
    let at = c.in_ok-found-in-Deliver.ensures.ends ss taken.followed ∙ ap (λ m. ends (run m r ss) c.in-Deliver.k) means in
    let below = subst (λ m. found.1 < m.nodes) means (c.in_ok-found-in-Deliver.ensures.below ss taken.followed c.requires) in
    subst (λ s. IsPlace cluster r (Some found.1) ss s) (sym c.in-Deliver.is) (delivery_place cluster r ss c.in-Deliver.k (Some found) at below)
