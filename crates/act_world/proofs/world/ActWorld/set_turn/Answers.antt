use Rattle.std.proofs.Common.{◌<◌, length, refl, subst, sym}
use Rattle.act_world.specs.Nodes.{with_turn}
use Rattle.act_world.proofs.Coding.{node-set}
use Rattle.act_world.proofs.world.ActWorld.set_turn.Goals as goal

pub returns : goal.returns
returns g c =
    let v = c.args.self.now in let i = c.self.inside in let node = c.index_mut-at.result.now in
    let below : c.args.node < length i.nodes.items = subst (λ x. c.args.node < length x.nodes) (sym c.self.view_is) c.requires in
    node-set i.handlers i.nodes.items i.flights.items i.notes i.taken v c.self.view_is c.args.node c.place.result node c.place.ensures below c.index_mut-at.ensures.value
    (with_turn c.args.turn) (with_turn c.args.turn node) refl
