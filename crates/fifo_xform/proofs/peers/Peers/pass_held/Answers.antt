use Rattle.std.proofs.Common.{ap, arith, length, refl, sym, ◌≤◌, ◌∙◌, slice_set}
use Rattle.std.specs.FinMap.{get-empty}
use Rattle.std.specs.Ordering.{nat_cmp}
use Rattle.std.proofs.lemmas.Option.{IfSome_then}
use Rattle.fifo_xform.specs.Peers.{held_next, passes, passing}
use Rattle.fifo_xform.proofs.Placing.{peer_of-past, placed-anew}
use Rattle.fifo_xform.proofs.peers.Peers.pass_held.Goals as goal

-- a node without a place
pub returns-then-place-len-clause-held : goal.returns-then-place-len-clause-held
returns-then-place-len-clause-held g c =
    let past : length c.args.self.now ≤ c.args.node = omega (arith, c.if-place-len.true, c.from-place.ensures, ap length c.self.view_is, c.len.ensures) in
    sym (ap held_next (peer_of-past c.args.self.now c.args.node past) ∙ get-empty nat_cmp 0)

pub returns-clause-passed : goal.returns-clause-passed
returns-clause-passed g c = IfSome_then c.pass_held.result c.pass_held.ensures.passed (λ _ e.
    ap (slice_set c.self.inside.nodes.items c.from-place.result) (e ∙ ap passes c.index_mut-peer.ensures.value)
    ∙ placed-anew c.self.inside.nodes.items c.self.inside.nodes.items c.from-place.result c.args.node _ passes c.from-place.ensures (omega (arith, c.if-place-len.false, c.len.ensures)) refl (λ _. refl)
    ∙ ap (λ ps. passing ps c.args.node) c.self.view_is)
