use Rattle.std.proofs.Common.{None, ◌<◌, ap, length, subst, sym, ◌∙◌}
use Rattle.act_world.specs.Nodes.{with_turn}
use Rattle.act_world.specs.Refusals.{turn_at}
use Rattle.act_world.proofs.Coding.{node-set, node-there}
use Rattle.act_world.proofs.world.ActWorld.take_turn.Goals as goal

pub returns-clause-turn : goal.returns-clause-turn
returns-clause-turn g c =
    let v = c.args.self.now in let i = c.self.inside in let node = c.index_mut-at.result.now in
    let below : c.args.node < length i.nodes.items = subst (λ x. c.args.node < length x.nodes) (sym c.self.view_is) c.requires in
    let there = node-there i.handlers i.nodes.items i.flights.items i.notes i.taken v c.self.view_is c.args.node c.place.result node c.place.ensures below c.index_mut-at.ensures.value in
    c.take.ensures.value ∙ sym (ap turn_at there)

pub returns-clause-new : goal.returns-clause-new
returns-clause-new g c =
    let v = c.args.self.now in let i = c.self.inside in let node = c.index_mut-at.result.now in
    let below : c.args.node < length i.nodes.items = subst (λ x. c.args.node < length x.nodes) (sym c.self.view_is) c.requires in
    node-set i.handlers i.nodes.items i.flights.items i.notes i.taken v c.self.view_is c.args.node c.place.result node c.place.ensures below c.index_mut-at.ensures.value
    (with_turn None) (with_turn c.take.new.self node) (ap (λ t. with_turn t node) c.take.ensures.after)
