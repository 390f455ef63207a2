use Rattle.std.proofs.Common.{◌∙◌, ◌++◌, ◌∷◌, [], ap}
use Rattle.act_world.specs.Moves.{one_sent, with_flights}
use Rattle.act_world.proofs.Coding.{seen}
use Rattle.act_world.proofs.world.ActWorld.send.Goals as goal

pub returns-clause-sends : goal.returns-clause-sends
returns-clause-sends g c =
    let i = c.self.inside in
    ap (with_flights (seen i.handlers i.nodes.items i.flights.items i.notes i.taken i.nodes.items))
    (c.in_ok-push.ensures.items ∙ ap (λ f. i.flights.items ++ f ∷ []) c.in_ok-flight.ensures)
    ∙ ap (λ x. one_sent x c.args.node c.args.number c.args.send) c.self.view_is
