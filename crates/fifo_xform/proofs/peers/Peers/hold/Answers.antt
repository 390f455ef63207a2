use Rattle.std.proofs.Common.{ap, ◌∙◌, slice_set}
use Rattle.std.proofs.lemmas.Result.{on_ok_weaker}
use Rattle.fifo_xform.specs.Peers.{Peer, holds, holding}
use Rattle.fifo_xform.proofs.Placing.{placed-anew}
use Rattle.fifo_xform.proofs.peers.Peers.hold.Goals as goal

pub returns : goal.returns
returns g c = on_ok_weaker c.hold.result (λ e.
    let holding_it = λ (p : Peer g.row.M.Denot). holds p c.args.number c.args.content in
    ap (slice_set c.reach.new.peers.items c.from-place.result) (e ∙ ap holding_it c.index_mut-peer.ensures.value)
    ∙ placed-anew c.self.inside.nodes.items c.reach.new.peers.items c.from-place.result c.args.from _ holding_it (c.from-place.ensures ∙ c.index.ensures) c.in_ok-reach.ensures.there c.in_ok-reach.ensures.kept
    c.in_ok-reach.ensures.same
    ∙ ap (λ ps. holding ps c.args.from c.args.number c.args.content) c.self.view_is) c.hold.ensures.ok
