use Rattle.std.proofs.Common.{sym, subst}
use Rattle.handler_trait.specs.Handling.{AreSentBelow}
use Rattle.retry_xform.proofs.Numbers.{retrying-after, sends-below, pending-acknowledged}
use Rattle.retry_xform.specs.Keeping.{Retrying, ArePending}
use Rattle.retry_xform.specs.Retransmission.{IsRetrying}
use Rattle.retry_xform.proofs.retry.RetryHandlers.message.Goals as goal

pub returns-in_ok-hand_on-in-Data-clause-sound : goal.returns-in_ok-hand_on-in-Data-clause-sound
returns-in_ok-hand_on-in-Data-clause-sound g c =
    let h = c.args.self.now in
    let nodes = (g.H.Handlers.meaning h).nodes in
    let sound = g.H.Handlers.sound h c.args.node in
    let before : Retrying g.row.H-State.Denot g.row.H-Msg.Denot = record { inner = c.state.inside.inner; next = c.state.inside.next; kept = c.state.inside.kept } in
    let was : IsRetrying sound nodes before = subst (IsRetrying sound nodes) (sym c.state.view_is) c.requires.sound in
    let modest = g.met.H.Handlers.modest_message h c.args.node before.inner c.args.from c.in-Data.inner c.requires.node c.requires.from was.inner in
    let made = subst (λ i. AreSentBelow nodes ((g.H.Handlers.meaning i).message c.args.node before.inner c.args.from c.in-Data.inner).sends) (sym c.self.view_is) modest.to_nodes in
    let below = sends-below nodes _ _ _ c.in_ok-message-in-Data.ensures.does.sends c.in_ok-within-in-Data.ensures.no_sends made in
    let ok = subst (λ i. g.H.Handlers.sound i c.args.node c.message.new.state) c.self.view_is c.in_ok-message-in-Data.ensures.sound in
    let after = retrying-after sound nodes before c.message.new.state c.hand_on.new.next c.hand_on.new.kept c.message.new.effects.sends was ok below
    c.in_ok-hand_on-in-Data.ensures.next c.in_ok-hand_on-in-Data.ensures.kept in
    after

pub returns-in-Ack-clause-sound : goal.returns-in-Ack-clause-sound
returns-in-Ack-clause-sound g c =
    let nodes = (g.H.Handlers.meaning c.args.self.now).nodes in
    let sound = g.H.Handlers.sound c.args.self.now c.args.node in
    let before : Retrying g.row.H-State.Denot g.row.H-Msg.Denot = record { inner = c.state.inside.inner; next = c.state.inside.next; kept = c.state.inside.kept } in
    let was : IsRetrying sound nodes before = subst (IsRetrying sound nodes) (sym c.state.view_is) c.requires.sound in
    record {
      inner = was.inner;
      pending = subst (ArePending before.next nodes) (sym c.acknowledge.ensures) (pending-acknowledged before.next nodes c.args.from _ before.kept was.pending);
    }
