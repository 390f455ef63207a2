use Rattle.std.proofs.Common.{◌≡◌, ◌∙◌, ◌+◌, Some, ap, refl, subst, sym}
use Rattle.std.specs.Prelude.{slice_get}
use Rattle.handler_trait.specs.Facts.{promises_of}
use Rattle.net_semantics.specs.Shown.{IsSoundPacket}
use Rattle.net_semantics.specs.Held.{held_copies, held_less}
use Rattle.net_semantics.specs.Order.{LanesFollow, all_ends}
use Rattle.net_semantics.proofs.Keeping.{parcel_of}
use Rattle.net_semantics.proofs.Ordering.{all_ends-change_at, order-less}
use Rattle.net_semantics.proofs.Taken.{modest_most, ready_there, takes_deliver}
use Rattle.net_semantics.proofs.world.World.deliver.Goals as goal
use Rattle.lists.specs.Options.{of_some}

pub message_event-requires-clause-ready : goal.message_event-requires-clause-ready
message_event-requires-clause-ready g c =
    let handlers : c.self.inside.handlers ≡ c.args.self.now.handlers = ap (λ v. v.handlers) c.self.view_is in
    let states : c.self.inside.states.items ≡ c.args.self.now.states = ap (λ v. v.states) c.self.view_is in
    let now = c.args.self.now in
    rw (handlers, states)
    (ready_there (promises_of g.H.Handlers now.handlers) now c.requires.sound c.requires.steps c.at-packet.result.destination)

pub returns-clause-takes : goal.returns-clause-takes
returns-clause-takes g c =
    let handlers : c.self.inside.handlers ≡ c.args.self.now.handlers = ap (λ v. v.handlers) c.self.view_is in
    let states : c.self.inside.states.items ≡ c.args.self.now.states = ap (λ v. v.states) c.self.view_is in
    let packets : c.self.inside.packets ≡ c.args.self.now.packets = ap (λ v. v.packets) c.self.view_is in
    let trace : c.self.inside.trace ≡ c.args.self.now.trace = ap (λ v. v.trace) c.self.view_is in
    let now = c.args.self.now in
    let r = c.at-packet.result in
    let p = parcel_of r.source r.destination (held_copies (slice_get now.packets c.args.k)) r.content.now in
    let sent : slice_get now.packets c.args.k ≡ Some p = rw packets at c.at-packet.ensures in
    let IsOne = IsSoundPacket (g.H.Handlers.meaning now.handlers).nodes now.taken in
    let sound : IsOne p = of_some IsOne (slice_get now.packets c.args.k) p sent (c.requires.sound.packets c.args.k) in
    takes_deliver (promises_of g.H.Handlers now.handlers) now _ c.args.k p r.content.now c.message_event.new.effects sent
    c.requires.copy refl
    (record {
      was = c.requires.sound;
      few = c.requires.steps;
      node = sound.destination;
      happens = rw (handlers, states) at c.in_ok-message_event.ensures.happens;
      kept = rw handlers at c.in_ok-message_event.ensures.sound;
      modest =
          λ s ok. modest_most g.met.H.Handlers.few_sends (g.met.H.Handlers.modest_message now.handlers r.destination s r.source r.content.now sound.destination
          sound.source ok);
      packets = rw (c.take_copy.ensures, packets) at c.in_ok-publish.ensures.packets;
      trace = rw trace at c.in_ok-publish.ensures.trace;
      taken = ap (λ v. v.taken + 1) c.self.view_is;
      same_net = ap (λ v. v.net) c.self.view_is;
      in_order = λ keeps. order-less now.packets c.args.k (c.requires.first keeps) (c.requires.sound.in_order keeps);
    })

pub invariant_of-self-in_err-publish : goal.invariant_of-self-in_err-publish
invariant_of-self-in_err-publish g c =
    let i = c.self.inside in
    let less = ap all_ends c.take_copy.ensures ∙ all_ends-change_at held_less (λ p. refl) (λ p. refl) c.args.k i.packets in
    (c.self.invariant.0, c.publish.ensures.kept ∙ c.self.invariant.1, c.publish.ensures.follow (subst (LanesFollow i.lanes) (sym less) c.self.invariant.2))

pub invariant_of-self-2 : goal.invariant_of-self-2
invariant_of-self-2 g c =
    let i = c.self.inside in
    let less = ap all_ends c.take_copy.ensures ∙ all_ends-change_at held_less (λ p. refl) (λ p. refl) c.args.k i.packets in
    (c.self.invariant.0, c.publish.ensures.kept ∙ c.self.invariant.1, c.publish.ensures.follow (subst (LanesFollow i.lanes) (sym less) c.self.invariant.2))
