use Rattle.std.proofs.Common.{ap, ◌∙◌, slice_set}
use Rattle.fifo_xform.specs.Peers.{passes, passing}
use Rattle.fifo_xform.proofs.Placing.{placed-anew}
use Rattle.fifo_xform.proofs.peers.Peers.pass.Goals as goal

pub returns : goal.returns
returns g c = ap (slice_set c.reach.new.peers.items c.from-place.result) (c.pass.ensures.passed ∙ ap passes c.index_mut-peer.ensures.value)
    ∙ placed-anew c.self.inside.nodes.items c.reach.new.peers.items c.from-place.result c.args.from _ passes (c.from-place.ensures ∙ c.index.ensures) c.in_ok-reach.ensures.there c.in_ok-reach.ensures.kept
    c.in_ok-reach.ensures.same
    ∙ ap (λ ps. passing ps c.args.from) c.self.view_is
