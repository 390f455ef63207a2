use Rattle.std.proofs.Common.{◌≡◌, ◌+◌, ap}
use Rattle.handler_trait.specs.Facts.{promises_of}
use Rattle.net_semantics.proofs.Taken.{modest_most, ready_there, takes_tick}
use Rattle.net_semantics.proofs.world.World.tick.Goals as goal

pub timeout_event-requires-clause-ready : goal.timeout_event-requires-clause-ready
timeout_event-requires-clause-ready g c =
    let handlers : c.self.inside.handlers ≡ c.args.self.now.handlers = ap (λ v. v.handlers) c.self.view_is in
    let states : c.self.inside.states.items ≡ c.args.self.now.states = ap (λ v. v.states) c.self.view_is in
    rw (handlers, states) (ready_there (promises_of g.H.Handlers c.args.self.now.handlers) c.args.self.now c.requires.sound c.requires.steps c.args.node)

pub returns-clause-takes : goal.returns-clause-takes
returns-clause-takes g c =
    let handlers : c.self.inside.handlers ≡ c.args.self.now.handlers = ap (λ v. v.handlers) c.self.view_is in
    let states : c.self.inside.states.items ≡ c.args.self.now.states = ap (λ v. v.states) c.self.view_is in
    let packets : c.self.inside.packets ≡ c.args.self.now.packets = ap (λ v. v.packets) c.self.view_is in
    let trace : c.self.inside.trace ≡ c.args.self.now.trace = ap (λ v. v.trace) c.self.view_is in
    takes_tick (promises_of g.H.Handlers c.args.self.now.handlers) c.args.self.now _ c.args.node c.timeout_event.new.effects
    (record {
      was = c.requires.sound;
      few = c.requires.steps;
      node = c.requires.node;
      happens = rw (handlers, states) at c.in_ok-timeout_event.ensures.happens;
      kept = rw handlers at c.in_ok-timeout_event.ensures.sound;
      modest = λ s ok. modest_most g.met.H.Handlers.few_sends (g.met.H.Handlers.modest_timeout c.args.self.now.handlers c.args.node s c.requires.node ok);
      packets = rw packets at c.in_ok-publish.ensures.packets;
      trace = rw trace at c.in_ok-publish.ensures.trace;
      taken = ap (λ v. v.taken + 1) c.self.view_is;
      same_net = ap (λ v. v.net) c.self.view_is;
      in_order = c.requires.sound.in_order;
    })
