use Rattle.std.proofs.Common.{◌≡◌, ◌<◌, ap, arith, length, ◌∙◌}
use Rattle.act_world.proofs.Coding.{happens-at, node-there}
use Rattle.act_world.proofs.world.ActWorld.input_event.Goals as goal

pub input-requires-clause-budget : goal.input-requires-clause-budget
input-requires-clause-budget g c =
    let v = c.args.self.now in let i = c.self.inside in let node = c.index_mut-at.result.now in
    let handlers : i.handlers ≡ v.handlers = ap (λ x. x.handlers) c.self.view_is in
    let len : length i.nodes.items ≡ (g.H.Handlers.meaning v.handlers).nodes = ap (λ x. length x.nodes) c.self.view_is ∙ c.requires.sound.nodes in
    let below : c.args.node < length i.nodes.items = omega (arith, len, c.requires.node) in
    let there = node-there i.handlers i.nodes.items i.flights.items i.notes i.taken v c.self.view_is c.args.node c.place.result node c.place.ensures below c.index_mut-at.ensures.value in
    let little = (c.requires.sound.each c.args.node node there).state.little in
    rw handlers (omega (arith, little, c.requires.steps))

pub returns-clause-happens : goal.returns-clause-happens
returns-clause-happens g c =
    let v = c.args.self.now in let i = c.self.inside in let node = c.index_mut-at.result.now in
    let handlers : i.handlers ≡ v.handlers = ap (λ x. x.handlers) c.self.view_is in
    let len : length i.nodes.items ≡ (g.H.Handlers.meaning v.handlers).nodes = ap (λ x. length x.nodes) c.self.view_is ∙ c.requires.sound.nodes in
    let below : c.args.node < length i.nodes.items = omega (arith, len, c.requires.node) in
    happens-at i.handlers i.nodes.items i.flights.items i.notes i.taken v c.self.view_is c.args.node c.place.result node c.place.ensures below c.index_mut-at.ensures.value
    (λ s. (g.H.Handlers.meaning v.handlers).input c.args.node s c.args.input.now) (g.H.Handlers.sound v.handlers c.args.node) c.input.new.state c.in_ok-effects.effects c.input.new.effects
    c.in_ok-effects.ensures.outputs c.in_ok-effects.ensures.sends (rw handlers at c.in_ok-input.ensures.does) (rw handlers at c.in_ok-input.ensures.sound)
