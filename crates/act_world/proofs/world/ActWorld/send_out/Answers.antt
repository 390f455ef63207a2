use Rattle.std.proofs.Common.{◌∙◌, ◌<◌, ap, length, subst, sym}
use Rattle.act_world.specs.Moves.{on_node}
use Rattle.act_world.specs.Nodes.{with_turn}
use Rattle.act_world.specs.Turns.{going}
use Rattle.act_world.proofs.world.ActWorld.send_out.Goals as goal

pub returns-clause-sends : goal.returns-clause-sends
returns-clause-sends g c =
    let n = c.args.node in
    c.set_turn.ensures ∙ (ap (λ t. on_node c.send.new.self n (with_turn t)) c.going.ensures ∙ ap (λ x. on_node x n (with_turn (going c.args.turn))) c.in_ok-send.ensures.sends)

pub returns-clause-handlers : goal.returns-clause-handlers
returns-clause-handlers g c = ap (λ v. v.handlers) c.set_turn.ensures ∙ c.send.ensures.handlers

pub set_turn-requires : goal.set_turn-requires
set_turn-requires g c = subst (λ x. c.args.node < length x.nodes) (sym c.in_ok-send.ensures.sends) c.requires
