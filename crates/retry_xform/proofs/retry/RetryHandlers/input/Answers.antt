use Rattle.std.proofs.Common.{sym, subst}
use Rattle.handler_trait.specs.Handling.{AreSentBelow}
use Rattle.retry_xform.proofs.Numbers.{retrying-after, sends-below}
use Rattle.retry_xform.specs.Keeping.{Retrying}
use Rattle.retry_xform.specs.Retransmission.{IsRetrying}
use Rattle.retry_xform.proofs.retry.RetryHandlers.input.Goals as goal

pub returns-clause-sound : goal.returns-clause-sound
returns-clause-sound g c =
    let h = c.args.self.now in
    let nodes = (g.H.Handlers.meaning h).nodes in
    let sound = g.H.Handlers.sound h c.args.node in
    let before : Retrying g.row.H-State.Denot g.row.H-Msg.Denot = record { inner = c.state.inside.inner; next = c.state.inside.next; kept = c.state.inside.kept } in
    let was : IsRetrying sound nodes before = subst (IsRetrying sound nodes) (sym c.state.view_is) c.requires.sound in
    let modest = g.met.H.Handlers.modest_input h c.args.node before.inner c.args.input.now c.requires.node c.requires.takes was.inner in
    let made = subst (λ i. AreSentBelow nodes ((g.H.Handlers.meaning i).input c.args.node before.inner c.args.input.now).sends) (sym c.self.view_is) modest.to_nodes in
    let below = sends-below nodes _ _ _ c.in_ok-input.ensures.does.sends c.in_ok-within.ensures.no_sends made in
    let ok = subst (λ i. g.H.Handlers.sound i c.args.node c.input.new.state) c.self.view_is c.in_ok-input.ensures.sound in
    let after = retrying-after sound nodes before c.input.new.state c.hand_on.new.next c.hand_on.new.kept c.input.new.effects.sends was ok below
    c.in_ok-hand_on.ensures.next c.in_ok-hand_on.ensures.kept in
    after
