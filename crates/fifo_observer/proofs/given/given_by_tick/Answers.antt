use Rattle.std.proofs.Common.{◌≡◌, nat_lt, ap, ◌∙◌}
use Rattle.fifo_observer.proofs.Giving.{node-is, tick-gives, ticks-at_node}
use Rattle.fifo_observer.proofs.given.given_by_tick.Goals as goal

pub returns-in_err-node : goal.returns-in_err-node
returns-in_err-node g c = λ ss taken follows net same allowed.
    let now = c.args.network.now in
    let system = g.W.Network.system now in
    let m = g.H.Handlers.meaning (g.W.Network.within now) in
    let nodes : c.nodes-nodes.result ≡ m.nodes = c.nodes-nodes.ensures ∙ ap (λ h. (g.H.Handlers.meaning h).nodes) c.handlers.ensures in
    absurd (ticks-at_node m system.meaning (g.met.W.Network.same_meaning now) system.recovery net ss c.args.n c.nodes-nodes.result nodes allowed c.in_err-node.ensures)

pub returns : goal.returns
returns g c = λ ss taken follows net same allowed.
    let now = c.args.network.now in
    let system = g.W.Network.system now in
    let m = g.H.Handlers.meaning (g.W.Network.within now) in
    let nodes : c.nodes-nodes.result ≡ m.nodes = c.nodes-nodes.ensures ∙ ap (λ h. (g.H.Handlers.meaning h).nodes) c.handlers.ensures in
    tick-gives m system.meaning (g.met.W.Network.same_meaning now) system.recovery net ss c.args.n c.in_ok-node.node c.nodes-nodes.result c.in_ok-source.source c.in_ok-source.number
    c.state.result.now c.packet_with.result same allowed (node-is (nat_lt c.args.n c.nodes-nodes.result) c.args.n c.in_ok-node.node c.in_ok-node.ensures) nodes (c.state.ensures.state ss taken.followed) c.in_ok-source.ensures
    (c.packet_with.ensures _ follows)
