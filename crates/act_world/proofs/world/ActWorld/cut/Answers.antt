use Rattle.std.proofs.Common.{◌≡◌, ◌∙◌, ◌+◌, ◌<◌, ◌^◌, None, ap, length, subst, sym}
use Rattle.std.specs.Prelude.{IfSome, slice_get}
use Rattle.std.proofs.lemmas.Result.{on_ok_weaker}
use Rattle.handler_trait.specs.Facts.{promises_of}
use Rattle.act_world.specs.Moves.{cut_in}
use Rattle.act_world.specs.Nodes.{with_turn}
use Rattle.act_world.proofs.Going.{cuts-none, cuts-some, on-below, uncounted-fits}
use Rattle.act_world.proofs.world.ActWorld.cut.Goals as goal

pub returns-in-Some-clause-cuts : goal.returns-in-Some-clause-cuts
returns-in-Some-clause-cuts g c =
    let v = c.args.self.now in let n = c.args.node in let d = g.D.SavesStates.disks in
    let lt = subst (λ k. n < k) (sym c.requires.sound.nodes) c.requires.node in
    on_ok_weaker c.cut_saving.result (λ done. cuts-some d n v c.args.left.now c.cut_saving.new.self c.in-Some.turn lt (sym c.in-Some.is ∙ c.take_uncounted.ensures.turn)
    (subst (λ x. IfSome (slice_get x.nodes n) (λ y. c.cut_saving.new.self ≡ cut_in d x n c.args.left.now y.disk c.in-Some.turn)) c.take_uncounted.ensures.new done)) c.cut_saving.ensures.cuts

pub returns-in-None-clause-cuts : goal.returns-in-None-clause-cuts
returns-in-None-clause-cuts g c =
    let v = c.args.self.now in let n = c.args.node in
    cuts-none g.D.SavesStates.disks n v c.args.left.now c.take_uncounted.new.self (subst (λ k. n < k) (sym c.requires.sound.nodes) c.requires.node)
    (sym c.in-None.is ∙ c.take_uncounted.ensures.turn) c.take_uncounted.ensures.new

pub cut_saving-requires-clause-node : goal.cut_saving-requires-clause-node
cut_saving-requires-clause-node g c =
    let v = c.args.self.now in let n = c.args.node in
    on-below v c.take_uncounted.new.self n (with_turn None) c.take_uncounted.ensures.new (subst (λ k. n < k) (sym c.requires.sound.nodes) c.requires.node)

pub cut_saving-requires-clause-exists : goal.cut_saving-requires-clause-exists
cut_saving-requires-clause-exists g c =
    subst (λ x. c.args.node < (g.H.Handlers.meaning x.handlers).nodes) (sym c.take_uncounted.ensures.new) c.requires.node

pub cut_saving-requires-clause-fits : goal.cut_saving-requires-clause-fits
cut_saving-requires-clause-fits g c =
    let v = c.args.self.now in let n = c.args.node in let t = c.in-Some.turn in
    subst (λ x. x.notes.sent + length t.sends < 2 ^ 32) (sym c.take_uncounted.ensures.new)
    (uncounted-fits (promises_of g.H.Handlers v.handlers) v c.requires.sound n c.requires.steps t (sym c.in-Some.is ∙ c.take_uncounted.ensures.turn))

pub returns-in-Some-clause-handlers : goal.returns-in-Some-clause-handlers
returns-in-Some-clause-handlers g c = c.cut_saving.ensures.handlers ∙ ap (λ v. v.handlers) c.take_uncounted.ensures.new

pub returns-in-None-clause-handlers : goal.returns-in-None-clause-handlers
returns-in-None-clause-handlers g c = ap (λ v. v.handlers) c.take_uncounted.ensures.new
