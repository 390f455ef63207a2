use Rattle.std.proofs.Common.{◌≡◌, ◌+◌, ap, map}
use Rattle.handler_trait.specs.Facts.{promises_of}
use Rattle.vst_base.specs.declared.step.Item.TheVariants as item
use Rattle.net_semantics.proofs.Taken.{modest_most, ready_there, takes_in, trace_in}
use Rattle.net_semantics.proofs.world.World.input_and_show.Goals as goal

pub input_event-requires-clause-ready : goal.input_event-requires-clause-ready
input_event-requires-clause-ready g c =
    let handlers : c.self.inside.handlers ≡ c.args.self.now.handlers = ap (λ v. v.handlers) c.self.view_is in
    let states : c.self.inside.states.items ≡ c.args.self.now.states = ap (λ v. v.states) c.self.view_is in
    rw (handlers, states) (ready_there (promises_of g.H.Handlers c.args.self.now.handlers) c.args.self.now c.requires.sound c.requires.steps c.args.node)

pub returns-clause-takes : goal.returns-clause-takes
returns-clause-takes g c =
    let handlers : c.self.inside.handlers ≡ c.args.self.now.handlers = ap (λ v. v.handlers) c.self.view_is in
    let states : c.self.inside.states.items ≡ c.args.self.now.states = ap (λ v. v.states) c.self.view_is in
    let packets : c.self.inside.packets ≡ c.args.self.now.packets = ap (λ v. v.packets) c.self.view_is in
    let trace : c.self.inside.trace ≡ c.args.self.now.trace = ap (λ v. v.trace) c.self.view_is in
    takes_in (promises_of g.H.Handlers c.args.self.now.handlers) c.args.self.now _ c.args.node c.args.input.now c.input_event.new.effects
    (record {
      was = c.requires.sound;
      few = c.requires.steps;
      node = c.requires.node;
      happens = rw (handlers, states) at c.in_ok-input_event.ensures.happens;
      kept = rw handlers at c.in_ok-input_event.ensures.sound;
      modest = λ s ok. modest_most g.met.H.Handlers.few_sends (g.met.H.Handlers.modest_input c.args.self.now.handlers c.args.node s c.args.input.now c.requires.node c.requires.takes ok);
      packets = rw packets at c.in_ok-publish.ensures.packets;
      trace = trace_in c.args.node c.args.input.now c.args.copy c.args.self.now.trace c.self.inside.trace c.push.new.self c.publish.new.trace (map (λ o. item.Output c.args.node o) c.input_event.new.effects.outputs) c.in_ok-publish.ensures.trace c.in_ok-push.ensures.added c.requires.copy trace;
      taken = ap (λ v. v.taken + 1) c.self.view_is;
      same_net = ap (λ v. v.net) c.self.view_is;
      in_order = c.requires.sound.in_order;
    })
