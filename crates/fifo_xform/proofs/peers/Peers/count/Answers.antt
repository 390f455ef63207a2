use Rattle.std.proofs.Common.{ap, ◌∙◌, slice_set}
use Rattle.fifo_xform.specs.Peers.{counts, counting}
use Rattle.fifo_xform.proofs.Placing.{placed-anew}
use Rattle.fifo_xform.proofs.peers.Peers.count.Goals as goal

pub returns-clause-counted : goal.returns-clause-counted
returns-clause-counted g c = ap (slice_set c.reach.new.peers.items c.from-place.result) (c.count.ensures.counted ∙ ap counts c.index_mut-peer.ensures.value)
    ∙ placed-anew c.self.inside.nodes.items c.reach.new.peers.items c.from-place.result c.args.to _ counts (c.from-place.ensures ∙ c.index.ensures) c.in_ok-reach.ensures.there c.in_ok-reach.ensures.kept
    c.in_ok-reach.ensures.same
    ∙ ap (λ ps. counting ps c.args.to) c.self.view_is
