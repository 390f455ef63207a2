use Rattle.std.proofs.Common.{rules, ◌≡◌, Some, subst}
use Rattle.std.specs.Prelude.{OnOk}
use Rattle.handler_trait.specs.Handling.{Does}
use Rattle.wired.specs.Wiring.{Named, after_message, heard, in_bytes}
use Rattle.wired.proofs.Handed.{handed_heard}
use Rattle.wired.proofs.wired.WiredHandlers.message.Goals as goal

pub returns-clause-does : goal.returns-clause-does
returns-clause-does g c =
    let f = g.H.Msg.Wire.format in
    let w : Named g.row.H.Denot = record { inner = c.self.inside.inner; stack = c.self.inside.cluster.stack; name = c.self.inside.cluster.name } in
    let is_heard : heard f w.stack w.name c.args.from c.args.node c.args.message.now ≡ Some c.in-Some.heard = search rules in
    subst (λ (w : Named g.row.H.Denot). OnOk c.hand_on.result
    (Does (in_bytes f w.stack w.name c.args.node (after_message (g.H.Handlers.meaning w.inner) c.args.node c.args.state.now c.args.from
    (heard f w.stack w.name c.args.from c.args.node c.args.message.now))) c.message.new.state c.args.effects.now c.hand_on.new.effects))
    c.self.view_is
    (handed_heard f g.H.Handlers.meaning w c.args.node c.args.from c.args.state.now c.message.new.state
    (heard f w.stack w.name c.args.from c.args.node c.args.message.now) c.in-Some.heard c.in_ok-within.within c.message.new.effects
    c.args.effects.now c.lend_outputs.new.self c.hand_on.new.effects c.hand_on.result is_heard
    c.in_ok-within.ensures.outputs c.in_ok-within.ensures.no_sends c.lend_outputs.ensures.sends c.in_ok-message.ensures.does
    c.hand_on.ensures.outputs c.hand_on.ensures.sends)
