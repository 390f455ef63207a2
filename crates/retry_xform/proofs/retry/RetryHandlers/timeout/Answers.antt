use Rattle.std.proofs.Common.{sym, subst}
use Rattle.handler_trait.specs.Handling.{AreSentBelow}
use Rattle.retry_xform.proofs.Numbers.{retrying-after, sends-below, pending-rotated}
use Rattle.retry_xform.specs.Keeping.{Retrying, ArePending}
use Rattle.retry_xform.specs.Retransmission.{IsRetrying}
use Rattle.retry_xform.proofs.retry.RetryHandlers.timeout.Goals as goal

pub returns-else-has_kept-clause-sound : goal.returns-else-has_kept-clause-sound
returns-else-has_kept-clause-sound g c =
    let h = c.args.self.now in
    let nodes = (g.H.Handlers.meaning h).nodes in
    let sound = g.H.Handlers.sound h c.args.node in
    let before : Retrying g.row.H-State.Denot g.row.H-Msg.Denot = record { inner = c.state.inside.inner; next = c.state.inside.next; kept = c.state.inside.kept } in
    let was : IsRetrying sound nodes before = subst (IsRetrying sound nodes) (sym c.state.view_is) c.requires.sound in
    let modest = g.met.H.Handlers.modest_timeout h c.args.node before.inner c.requires.node was.inner in
    let made = subst (λ i. AreSentBelow nodes ((g.H.Handlers.meaning i).timeout c.args.node before.inner).sends) (sym c.self.view_is) modest.to_nodes in
    let below = sends-below nodes _ _ _ c.in_ok-timeout.ensures.does.sends c.in_ok-within.ensures.no_sends made in
    let ok = subst (λ i. g.H.Handlers.sound i c.args.node c.timeout.new.state) c.self.view_is c.in_ok-timeout.ensures.sound in
    let after = retrying-after sound nodes before c.timeout.new.state c.hand_on.new.next c.hand_on.new.kept c.timeout.new.effects.sends was ok below
    c.in_ok-hand_on.ensures.next c.in_ok-hand_on.ensures.kept in
    after

pub returns-in_ok-resend-clause-sound : goal.returns-in_ok-resend-clause-sound
returns-in_ok-resend-clause-sound g c =
    let h = c.args.self.now in
    let nodes = (g.H.Handlers.meaning h).nodes in
    let sound = g.H.Handlers.sound h c.args.node in
    let before : Retrying g.row.H-State.Denot g.row.H-Msg.Denot = record { inner = c.state.inside.inner; next = c.state.inside.next; kept = c.state.inside.kept } in
    let was : IsRetrying sound nodes before = subst (IsRetrying sound nodes) (sym c.state.view_is) c.requires.sound in
    let modest = g.met.H.Handlers.modest_timeout h c.args.node before.inner c.requires.node was.inner in
    let made = subst (λ i. AreSentBelow nodes ((g.H.Handlers.meaning i).timeout c.args.node before.inner).sends) (sym c.self.view_is) modest.to_nodes in
    let below = sends-below nodes _ _ _ c.in_ok-timeout.ensures.does.sends c.in_ok-within.ensures.no_sends made in
    let ok = subst (λ i. g.H.Handlers.sound i c.args.node c.timeout.new.state) c.self.view_is c.in_ok-timeout.ensures.sound in
    let after = retrying-after sound nodes before c.timeout.new.state c.hand_on.new.next c.hand_on.new.kept c.timeout.new.effects.sends was ok below
    c.in_ok-hand_on.ensures.next c.in_ok-hand_on.ensures.kept in
    record {
      inner = after.inner;
      pending = subst (ArePending c.hand_on.new.next nodes) (sym c.in_ok-resend.ensures.rotated) (pending-rotated c.hand_on.new.next nodes c.hand_on.new.kept after.pending);
    }
