use Rattle.std.proofs.Common.{◌≤◌, ap, sym, arith, length, ◌∙◌}
use Rattle.fifo_xform.specs.Peers.{is_early}
use Rattle.fifo_xform.proofs.Placing.{early-new, peer_of-past}
use Rattle.fifo_xform.proofs.peers.Peers.is_early.Goals as goal

-- a node without a place
pub returns-in-None : goal.returns-in-None
returns-in-None g c =
    let past : length c.args.self.now ≤ c.args.from = omega (arith, c.in-None.ensures.lookup.3, ap length c.deref.ensures.value, ap length c.self.view_is) in
    early-new _ c.args.number ∙ ap (λ p. is_early p c.args.number) (sym (peer_of-past c.args.self.now c.args.from past))
