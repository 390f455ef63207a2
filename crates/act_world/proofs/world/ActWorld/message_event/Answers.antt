use Rattle.std.proofs.Common.{◌≡◌, ◌<◌, ap, arith, length, refl, subst, sym, ◌∙◌}
use Rattle.std.specs.Prelude.{slice_get}
use Rattle.std.proofs.lemmas.Option.{same_Some}
use Rattle.lists.specs.Options.{of_some}
use Rattle.net_semantics.specs.Held.{held_less}
use Rattle.net_semantics.specs.Shown.{IsSoundPacket}
use Rattle.act_world.specs.Flights.{flight_copies, with_packet}
use Rattle.act_world.proofs.Coding.{flight-there, node-there, sent-below}
use Rattle.act_world.proofs.Delivering.{delivers-at}
use Rattle.act_world.proofs.world.ActWorld.message_event.Goals as goal

pub index-flight-requires : goal.index-flight-requires
index-flight-requires g c =
    let i = c.self.inside in
    let lt = sent-below i.flights.items c.args.k (subst (λ x. 0 < flight_copies (slice_get x.flights c.args.k)) (sym c.self.view_is) c.requires.copy) in
    let size = i.flights.ok.0 in omega (arith, lt, size)

pub index_mut-requires : goal.index_mut-requires
index_mut-requires g c =
    let i = c.self.inside in
    let lt = sent-below i.flights.items c.args.k (subst (λ x. 0 < flight_copies (slice_get x.flights c.args.k)) (sym c.self.view_is) c.requires.copy) in
    let size = i.flights.ok.0 in omega (arith, lt, size)

pub content-requires : goal.content-requires
content-requires g c =
    let v = c.args.self.now in let i = c.self.inside in let f = c.index-flight.result.now in let k = c.args.k in
    let there = flight-there i.handlers i.nodes.items i.flights.items i.notes i.taken v c.self.view_is k k f refl c.requires.copy c.index-flight.ensures in
    let sound = of_some (λ x. IsSoundPacket (g.H.Handlers.meaning v.handlers).nodes v.taken x.packet) (slice_get v.flights k) f there (c.requires.sound.flights k) in
    sound.content (subst (λ o. 0 < flight_copies o) there c.requires.copy)

pub index_mut-at-requires : goal.index_mut-at-requires
index_mut-at-requires g c =
    let v = c.args.self.now in let i = c.self.inside in let f = c.index-flight.result.now in let k = c.args.k in
    let there = flight-there i.handlers i.nodes.items i.flights.items i.notes i.taken v c.self.view_is k k f refl c.requires.copy c.index-flight.ensures in
    let sound = of_some (λ x. IsSoundPacket (g.H.Handlers.meaning v.handlers).nodes v.taken x.packet) (slice_get v.flights k) f there (c.requires.sound.flights k) in
    let len = ap (λ x. length x.nodes) c.self.view_is in
    let a = sound.destination in let b = c.requires.sound.nodes in let e = c.place.ensures in let dest = c.destination-node.ensures in
    let size = i.nodes.ok.0 in
    omega (arith, a, b, e, dest, len, size)

pub message-requires-clause-node : goal.message-requires-clause-node
message-requires-clause-node g c =
    let v = c.args.self.now in let i = c.self.inside in let f = c.index-flight.result.now in let k = c.args.k in
    let handlers : i.handlers ≡ v.handlers = ap (λ x. x.handlers) c.self.view_is in
    let there = flight-there i.handlers i.nodes.items i.flights.items i.notes i.taken v c.self.view_is k k f refl c.requires.copy c.index-flight.ensures in
    let sound = of_some (λ x. IsSoundPacket (g.H.Handlers.meaning v.handlers).nodes v.taken x.packet) (slice_get v.flights k) f there (c.requires.sound.flights k) in
    rw (handlers, c.destination-node.ensures) sound.destination

pub message-requires-clause-from : goal.message-requires-clause-from
message-requires-clause-from g c =
    let v = c.args.self.now in let i = c.self.inside in let f = c.index-flight.result.now in let k = c.args.k in
    let handlers : i.handlers ≡ v.handlers = ap (λ x. x.handlers) c.self.view_is in
    let there = flight-there i.handlers i.nodes.items i.flights.items i.notes i.taken v c.self.view_is k k f refl c.requires.copy c.index-flight.ensures in
    let sound = of_some (λ x. IsSoundPacket (g.H.Handlers.meaning v.handlers).nodes v.taken x.packet) (slice_get v.flights k) f there (c.requires.sound.flights k) in
    rw (handlers, c.source-from.ensures) sound.source

pub message-requires-clause-sound : goal.message-requires-clause-sound
message-requires-clause-sound g c =
    let v = c.args.self.now in let i = c.self.inside in let f = c.index-flight.result.now in let k = c.args.k in let node = c.index_mut-at.result.now in
    let handlers : i.handlers ≡ v.handlers = ap (λ x. x.handlers) c.self.view_is in
    let there = flight-there i.handlers i.nodes.items i.flights.items i.notes i.taken v c.self.view_is k k f refl c.requires.copy c.index-flight.ensures in
    let sound = of_some (λ x. IsSoundPacket (g.H.Handlers.meaning v.handlers).nodes v.taken x.packet) (slice_get v.flights k) f there (c.requires.sound.flights k) in
    let len = ap (λ x. length x.nodes) c.self.view_is in let a = sound.destination in let b = c.requires.sound.nodes in let dest = c.destination-node.ensures in
    let at = node-there i.handlers i.nodes.items i.flights.items i.notes i.taken v c.self.view_is c.destination-node.result c.place.result node c.place.ensures (omega (arith, a, b, dest, len)) c.index_mut-at.ensures.value in
    rw handlers (c.requires.sound.each c.destination-node.result node at).state.keeps

pub message-requires-clause-budget : goal.message-requires-clause-budget
message-requires-clause-budget g c =
    let v = c.args.self.now in let i = c.self.inside in let f = c.index-flight.result.now in let k = c.args.k in let node = c.index_mut-at.result.now in
    let handlers : i.handlers ≡ v.handlers = ap (λ x. x.handlers) c.self.view_is in
    let there = flight-there i.handlers i.nodes.items i.flights.items i.notes i.taken v c.self.view_is k k f refl c.requires.copy c.index-flight.ensures in
    let sound = of_some (λ x. IsSoundPacket (g.H.Handlers.meaning v.handlers).nodes v.taken x.packet) (slice_get v.flights k) f there (c.requires.sound.flights k) in
    let len = ap (λ x. length x.nodes) c.self.view_is in let a = sound.destination in let b = c.requires.sound.nodes in let dest = c.destination-node.ensures in
    let at = node-there i.handlers i.nodes.items i.flights.items i.notes i.taken v c.self.view_is c.destination-node.result c.place.result node c.place.ensures (omega (arith, a, b, dest, len)) c.index_mut-at.ensures.value in
    let little = (c.requires.sound.each c.destination-node.result node at).state.little in
    rw handlers (omega (arith, little, c.requires.steps))

pub take_copy-requires : goal.take_copy-requires
take_copy-requires g c =
    let v = c.args.self.now in let i = c.self.inside in let x = c.index_mut.result.now in let k = c.args.k in
    let there = flight-there i.handlers i.nodes.items i.flights.items i.notes i.taken v c.self.view_is k k x refl c.requires.copy c.index_mut.ensures.value in
    subst (λ o. 0 < flight_copies o) there c.requires.copy

pub returns-clause-delivers : goal.returns-clause-delivers
returns-clause-delivers g c =
    let v = c.args.self.now in let i = c.self.inside in let f = c.index-flight.result.now in let k = c.args.k in let node = c.index_mut-at.result.now in
    let handlers : i.handlers ≡ v.handlers = ap (λ x. x.handlers) c.self.view_is in
    let there = flight-there i.handlers i.nodes.items i.flights.items i.notes i.taken v c.self.view_is k k f refl c.requires.copy c.index-flight.ensures in
    let sound = of_some (λ x. IsSoundPacket (g.H.Handlers.meaning v.handlers).nodes v.taken x.packet) (slice_get v.flights k) f there (c.requires.sound.flights k) in
    let len = ap (λ x. length x.nodes) c.self.view_is in let a = sound.destination in let b = c.requires.sound.nodes in let dest = c.destination-node.ensures in
    let x = c.index_mut.result.now in
    let again = flight-there i.handlers i.nodes.items i.flights.items i.notes i.taken v c.self.view_is k k x refl c.requires.copy c.index_mut.ensures.value in
    delivers-at i.handlers i.nodes.items i.flights.items i.notes i.taken v c.self.view_is k c.requires.copy f c.index-flight.ensures
    (g.H.Handlers.meaning v.handlers).message (g.H.Handlers.sound v.handlers) c.content.result.now c.content.ensures
    c.destination-node.result c.place.result node dest c.place.ensures (omega (arith, a, b, dest, len)) c.index_mut-at.ensures.value
    c.source-from.result c.source-from.ensures c.message.new.state c.in_ok-effects.effects c.message.new.effects c.in_ok-effects.ensures.outputs c.in_ok-effects.ensures.sends
    (rw handlers at c.in_ok-message.ensures.does) (rw handlers at c.in_ok-message.ensures.sound) c.take_copy.new.self
    (c.take_copy.ensures ∙ ap (with_packet held_less) (same_Some x f (sym again ∙ there)))
