use Rattle.std.proofs.Common.{◌≡◌, ◌∙◌, ap, arith, length}
use Rattle.act_world.specs.Moves.{with_notes}
use Rattle.act_world.specs.Notes.{output_sent}
use Rattle.act_world.specs.Nodes.{with_turn}
use Rattle.act_world.specs.Moves.{on_node}
use Rattle.act_world.proofs.Coding.{seen}
use Rattle.act_world.proofs.Going.{put-on}
use Rattle.act_world.proofs.world.ActWorld.put_out.Goals as goal

pub returns-clause-tells : goal.returns-clause-tells
returns-clause-tells g c =
    let v = c.args.self.now in let i = c.self.inside in let n = c.args.node in
    let mid = seen i.handlers i.nodes.items i.flights.items c.tell.new.self i.taken i.nodes.items in
    let notes = ap (λ x. x.notes) c.self.view_is in
    let put = ap (λ x. with_notes x c.tell.new.self) c.self.view_is ∙ ap (with_notes v) (c.in_ok-tell.ensures ∙ ap (λ x. output_sent x c.place.result c.in-Some.output) notes) in
    put-on n v mid c.set_turn.new.self c.args.turn c.next_output.new.self c.in-Some.output c.place.result c.requires.sends c.in-Some.ensures c.place.ensures put
    (c.set_turn.ensures ∙ ap (λ t. on_node mid n (with_turn t)) c.going.ensures)

pub returns-clause-handlers : goal.returns-clause-handlers
returns-clause-handlers g c = ap (λ v. v.handlers) c.set_turn.ensures ∙ ap (λ v. v.handlers) c.self.view_is

pub tell-requires : goal.tell-requires
tell-requires g c =
    let place = c.place.ensures in let same = c.in-Some.ensures.place in
    let size : length c.self.inside.notes.listed ≡ length c.args.self.now.notes.listed = ap (λ x. length x.notes.listed) c.self.view_is in
    omega (arith, place, same, size, c.requires.place)
