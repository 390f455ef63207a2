use Rattle.std.specs.Prelude.{is_some}
use Rattle.std.proofs.Common.{◌≤◌, ap, sym, arith, length, ◌∙◌}
use Rattle.fifo_xform.specs.Peers.{held_next}
use Rattle.fifo_xform.proofs.Placing.{peer_of-past, unready-new}
use Rattle.fifo_xform.proofs.peers.Peers.is_ready.Goals as goal

-- a node without a place
pub returns-in-None : goal.returns-in-None
returns-in-None g c =
    let past : length c.args.self.now ≤ c.args.from = omega (arith, c.in-None.ensures.lookup.3, ap length c.deref.ensures.value, ap length c.self.view_is) in
    unready-new _ ∙ ap (λ p. is_some (held_next p)) (sym (peer_of-past c.args.self.now c.args.from past))
