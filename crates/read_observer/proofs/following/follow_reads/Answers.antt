use Rattle.std.proofs.Common.{◌<◌, ap, arith, subst, sym, ◌∙◌}
use Rattle.std.specs.Prelude.{IfSome}
use Rattle.std.proofs.lemmas.Result.{on_ok_weaker}
use Rattle.read_observer.specs.Observed.{cluster_in}
use Rattle.read_observer.proofs.Applying.{reads-nowhere, reads-somewhere}
use Rattle.read_observer.proofs.following.follow_reads.Goals as goal

pub state-requires-clause-node : goal.state-requires-clause-node
state-requires-clause-node g c =
    let nodes = c.nodes.ensures ∙ ap (λ r. r.nodes) c.handlers-cluster.ensures in
    let below : c.in-Some.node < (g.W.Network.within c.args.network.now).nodes = omega (arith, nodes, c.in-Some.ensures.below) in
    rw (c.requires.cluster) below

pub returns-in-None : goal.returns-in-None
returns-in-None g c = λ ss s taken place had.
    let net = c.args.network.now in
    let h = g.W.Network.within net in
    let cluster = cluster_in (g.M.Machine.meaning h.machine) (g.M.Queries.reads h.machine) h.nodes in
    let nodes = c.nodes.ensures ∙ ap (λ r. r.nodes) c.handlers-cluster.ensures in
    let below = subst (λ k. IfSome c.args.place (λ n. n < k)) (sym nodes) place.below in
    reads-nowhere cluster (g.W.Network.system net) c.requires.cluster c.requires.size ss s taken.allowed c.args.reads.now.items c.args.place (c.in-None.ensures.same below) place had

pub returns-in-Some : goal.returns-in-Some
returns-in-Some g c = on_ok_weaker c.add_answered.result (λ added ss s taken place had.
    let net = c.args.network.now in
    let h = g.W.Network.within net in
    let cluster = cluster_in (g.M.Machine.meaning h.machine) (g.M.Queries.reads h.machine) h.nodes in
    let nodes = c.nodes.ensures ∙ ap (λ r. r.nodes) c.handlers-cluster.ensures in
    let below = subst (λ k. IfSome c.args.place (λ n. n < k)) (sym nodes) place.below in
    reads-somewhere cluster (g.W.Network.system net) c.requires.cluster c.requires.size ss s taken.allowed c.args.reads.now.items c.add_answered.new.answered.items c.args.place c.in-Some.node c.state.result.now
    (c.in-Some.ensures.same below) (c.state.ensures.state _ taken.followed) added place had) c.add_answered.ensures
