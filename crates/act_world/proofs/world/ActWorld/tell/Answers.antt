use Rattle.std.proofs.Common.{◌≢◌, ◌<◌, [], ap, length, refl, subst, sym, ◌∙◌}
use Rattle.std.proofs.lemmas.Result.{on_ok_weaker}
use Rattle.act_world.specs.Moves.{one_sent, tells_on}
use Rattle.act_world.proofs.Going.{sent-on}
use Rattle.act_world.proofs.world.ActWorld.tell.Goals as goal

pub returns-in-Some-clause-tells : goal.returns-in-Some-clause-tells
returns-in-Some-clause-tells g c =
    let v = c.args.self.now in let n = c.args.node in
    on_ok_weaker c.send_out.result (λ done. sent-on n v (one_sent v n c.number-number.result c.in-Some.send) c.send_out.new.self c.args.turn c.next_send.new.self c.in-Some.send
    c.number-number.result c.in-Some.ensures c.number-number.ensures refl done) c.send_out.ensures.sends

pub returns-in-None-clause-tells : goal.returns-in-None-clause-tells
returns-in-None-clause-tells g c =
    on_ok_weaker c.put_out.result (λ done. done ∙ ap (λ t. tells_on c.args.self.now c.args.node t t.sends t.outputs) (c.in-None.ensures.1)) c.put_out.ensures.tells

pub put_out-requires-clause-sends : goal.put_out-requires-clause-sends
put_out-requires-clause-sends g c = ap (λ t. t.sends) c.in-None.ensures.1 ∙ c.in-None.ensures.0

pub put_out-requires-clause-outputs : goal.put_out-requires-clause-outputs
put_out-requires-clause-outputs g c = subst (λ t. t.outputs ≢ []) (sym c.in-None.ensures.1) (c.requires.more c.in-None.ensures.0)

pub put_out-requires-clause-place : goal.put_out-requires-clause-place
put_out-requires-clause-place g c = subst (λ t. t.place < length c.args.self.now.notes.listed) (sym c.in-None.ensures.1) c.requires.place
