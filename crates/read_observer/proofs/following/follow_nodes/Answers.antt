use Rattle.std.proofs.Common.{◌≡◌, ◌<◌, ap, ◌∙◌, arith}
use Rattle.raft_safety.proofs.Growing.{applied_grows, each_has_a_beginning}
use Rattle.xform_stack.proofs.ByNode.{follows_first, follows_more}
use Rattle.read_observer.specs.Observed.{cluster_in}
use Rattle.read_observer.proofs.Applying.{followed-step, tells, told_of}
use Rattle.read_observer.proofs.Events.{Stands}
use Rattle.read_observer.proofs.following.follow_nodes.Goals as goal

pub loop-n-init : goal.loop-n-init
loop-n-init g c = follows_first _ _ _ _

pub state-requires-clause-node : goal.state-requires-clause-node
state-requires-clause-node g c =
    let nodes = c.nodes-nodes.ensures ∙ ap (λ r. r.nodes) c.handlers-cluster.ensures in
    let number : c.unwrap-node.result ≡ c.loop-n.n = rw (c.unwrap-node.ensures) at c.new.ensures.number in
    let below : c.unwrap-node.result < (g.W.Network.within c.args.network.now).nodes = omega arith in
    rw (c.requires.cluster) below

pub catch_up-requires : goal.catch_up-requires
catch_up-requires g c = omega (arith, c.state.ensures.sound.raft.applied, c.state.ensures.sound.raft.committed)

pub loop-n-preserved : goal.loop-n-preserved
loop-n-preserved g c =
    let w = g.W.Network in
    let net = c.args.network.now in
    let h = w.within net in
    let cluster = cluster_in (g.M.Machine.meaning h.machine) (g.M.Queries.reads h.machine) h.nodes in
    let nodes = c.nodes-nodes.ensures ∙ ap (λ r. r.nodes) c.handlers-cluster.ensures in
    let number : c.unwrap-node.result ≡ c.loop-n.n = rw (c.unwrap-node.ensures) at c.new.ensures.number in
    let below : c.loop-n.n < h.nodes = omega arith in
    let told = told_of cluster (w.follows net) (w.system net) c.unwrap-node.result c.loop-n.n c.state.result.now c.requires.cluster number c.state.ensures.state in
    follows_more _ _ (Stands cluster (w.follows net)) (applied_grows _ _ _) (each_has_a_beginning _ _ _)
    c.loop-n.n c.args.order.now c.loop-n.order c.catch_up.new.order c.state.result.now.raft
    below (tells cluster (w.follows net) c.loop-n.n c.state.result.now told) c.in_ok-catch_up.ensures c.loop-n.invariant

pub returns : goal.returns
returns g c = λ ss s taken had.
    let w = g.W.Network in
    let net = c.args.network.now in
    let h = w.within net in
    let cluster = cluster_in (g.M.Machine.meaning h.machine) (g.M.Queries.reads h.machine) h.nodes in
    let nodes = c.nodes-nodes.ensures ∙ ap (λ r. r.nodes) c.handlers-cluster.ensures in
    let all : c.loop-n.n ≡ h.nodes = omega arith in
    followed-step cluster (w.follows net) c.args.order.now c.loop-n.order (rw all at c.loop-n.invariant) ss s
    (record { size = c.requires.size; allowed = rw (c.requires.cluster) at taken.allowed }) taken.followed had
