use Rattle.std.proofs.Common.{arith, ◌≡◌}
use Rattle.std.proofs.lemmas.Result.{on_ok_weaker}
use Rattle.net_semantics.proofs.Eventful.{happens_at, sound_at}
use Rattle.net_semantics.proofs.events.input_event.Goals as goal

pub returns-clause-happens : goal.returns-clause-happens
returns-clause-happens g c =
    let same : c.from.result ≡ c.args.node = omega arith in
    on_ok_weaker c.input.result (happens_at (λ s. (g.H.Handlers.meaning c.args.handlers.now).input c.args.node s c.args.input.now) c.args.node c.from.result c.args.states.now.items c.index_mut-state.result.now c.input.new.state same c.requires.held c.index_mut-state.ensures.value c.make_room.new.effects c.input.new.effects c.in_ok-make_room.ensures.outputs c.in_ok-make_room.ensures.sends) c.input.ensures.does

pub returns-clause-sound : goal.returns-clause-sound
returns-clause-sound g c =
    let same : c.from.result ≡ c.args.node = omega arith in
    on_ok_weaker c.input.result (sound_at (λ s. (g.H.Handlers.meaning c.args.handlers.now).input c.args.node s c.args.input.now) c.args.node c.from.result c.args.states.now.items c.index_mut-state.result.now c.input.new.state same c.requires.held c.index_mut-state.ensures.value (g.H.Handlers.sound c.args.handlers.now c.args.node)) c.input.ensures.sound
