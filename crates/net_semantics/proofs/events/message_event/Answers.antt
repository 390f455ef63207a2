use Rattle.std.proofs.Common.{arith, ◌≡◌}
use Rattle.std.proofs.lemmas.Result.{on_ok_weaker}
use Rattle.net_semantics.proofs.Eventful.{happens_at, sound_at}
use Rattle.net_semantics.proofs.events.message_event.Goals as goal

pub returns-clause-happens : goal.returns-clause-happens
returns-clause-happens g c =
    let p = c.args.packet.now in
    let same : c.from.result ≡ p.destination = omega arith in
    on_ok_weaker c.message.result
    (happens_at (λ s. (g.H.Handlers.meaning c.args.handlers.now).message p.destination s p.source p.content.now) p.destination
    c.from.result c.args.states.now.items c.index_mut-state.result.now c.message.new.state same c.requires.held
    c.index_mut-state.ensures.value c.make_room.new.effects c.message.new.effects c.in_ok-make_room.ensures.outputs
    c.in_ok-make_room.ensures.sends)
    c.message.ensures.does

pub returns-clause-sound : goal.returns-clause-sound
returns-clause-sound g c =
    let p = c.args.packet.now in
    let same : c.from.result ≡ p.destination = omega arith in
    on_ok_weaker c.message.result
    (sound_at (λ s. (g.H.Handlers.meaning c.args.handlers.now).message p.destination s p.source p.content.now) p.destination
    c.from.result c.args.states.now.items c.index_mut-state.result.now c.message.new.state same c.requires.held
    c.index_mut-state.ensures.value (g.H.Handlers.sound c.args.handlers.now p.destination))
    c.message.ensures.sound
