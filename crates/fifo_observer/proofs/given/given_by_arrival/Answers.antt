use Rattle.std.proofs.Common.{◌≡◌, nat_lt, ◌∙◌}
use Rattle.fifo_observer.proofs.Giving.{arrival-gives, node-is}
use Rattle.fifo_observer.proofs.given.given_by_arrival.Goals as goal

pub returns : goal.returns
returns g c = λ ss taken follows net same allowed.
    let now = c.args.network.now in
    let system = g.W.Network.system now in
    let there : c.in_ok-there.there ≡ c.from.result = node-is (nat_lt c.from.result c.nodes.result) c.from.result c.in_ok-there.there c.in_ok-there.ensures in
    let same_node : c.from.result ≡ c.in_ok-source.destination = c.from.ensures ∙ c.index.ensures in
    c.then_some.ensures
    ∙ arrival-gives (g.H.Handlers.meaning (g.W.Network.within now)) system.meaning (g.met.W.Network.same_meaning now) system.recovery net ss
    c.args.k c.in_ok-source.source c.in_ok-source.destination c.in_ok-there.there c.in_ok-number.number c.state.result.now c.expects-is_next.result same allowed
    (c.in_ok-source.ensures.ends ss taken.followed) (c.in_ok-number.ensures _ follows) (there ∙ same_node) (c.state.ensures.state ss taken.followed) c.expects-is_next.ensures
