use Rattle.std.proofs.Common.{◌≡◌, ◌∙◌, ◌+◌, ◌<◌, ◌^◌, None, Some, ap, length, refl, subst, sym}
use Rattle.std.proofs.lemmas.Result.{on_ok_weaker}
use Rattle.std.specs.Prelude.{IfSome, slice_get}
use Rattle.handler_trait.specs.Facts.{promises_of, reboot_promises_of, rebootable_facts}
use Rattle.act_world.specs.Moves.{SavesOn, tells_on}
use Rattle.act_world.specs.Nodes.{with_turn}
use Rattle.act_world.specs.Refusals.{left_at}
use Rattle.act_world.specs.declared.turn.Turn.TheVariants as turn
use Rattle.act_world.proofs.Going.{on-below, out-state, saving-fits, saving-sound, telling-fits, telling-sound}
use Rattle.act_world.proofs.Stepping.{node-in-turn, save-takes, tell-takes}
use Rattle.act_world.proofs.world.ActWorld.go_on.Goals as goal

pub returns-in-Saving-clause-goes : goal.returns-in-Saving-clause-goes
returns-in-Saving-clause-goes g c =
    let v = c.args.self.now in let n = c.args.node in let t = c.in-Saving.turn in
    let facts = rebootable_facts g.H.Handlers g.H.Rebootable in
    let h = reboot_promises_of facts v.handlers in
    let d = g.D.SavesStates.disks in
    let out-is = c.take_turn.ensures.new in
    let at = node-in-turn (slice_get v.nodes n) (turn.Saving t) (sym c.take_turn.ensures.turn ∙ (c.in-Some.is ∙ ap (λ t. Some t) c.in-Saving.is)) in
    let left = subst (λ o. left_at o ≡ None) at.1 c.requires.up in
    let below = subst (λ k. n < k) c.requires.sound.nodes c.requires.node in
    on_ok_weaker c.save.result (λ done.
    (let sv = subst (λ x. SavesOn d n x c.save.new.self (g.H.Rebootable.recovery x.handlers).keep t) out-is done in
    save-takes h d v n c.requires.sound c.requires.steps below at.0 at.1 left t (at.2) sv.act c.save.new.self sv refl)) c.save.ensures.saves

pub returns-in-Telling-clause-goes : goal.returns-in-Telling-clause-goes
returns-in-Telling-clause-goes g c =
    let v = c.args.self.now in let n = c.args.node in let t = c.in-Telling.turn in
    let facts = rebootable_facts g.H.Handlers g.H.Rebootable in
    let h = reboot_promises_of facts v.handlers in
    let d = g.D.SavesStates.disks in
    let out-is = c.take_turn.ensures.new in
    let at = node-in-turn (slice_get v.nodes n) (turn.Telling t) (sym c.take_turn.ensures.turn ∙ (c.in-Some.is ∙ ap (λ t. Some t) c.in-Telling.is)) in
    let left = subst (λ o. left_at o ≡ None) at.1 c.requires.up in
    let below = subst (λ k. n < k) c.requires.sound.nodes c.requires.node in
    on_ok_weaker c.tell.result (λ done. tell-takes h d v n c.requires.sound c.requires.steps below at.0 at.1 left t (at.2) c.tell.new.self
    (done ∙ ap (λ x. tells_on x n t t.sends t.outputs) out-is)) c.tell.ensures.tells

pub save-requires-clause-node : goal.save-requires-clause-node
save-requires-clause-node g c = on-below c.args.self.now c.take_turn.new.self c.args.node (with_turn None) c.take_turn.ensures.new c.requires.node

pub save-requires-clause-exists : goal.save-requires-clause-exists
save-requires-clause-exists g c =
    let n = c.args.node in
    subst (λ x. n < (g.H.Handlers.meaning x.handlers).nodes) (sym c.take_turn.ensures.new) (subst (λ k. n < k) c.requires.sound.nodes c.requires.node)

pub save-requires-clause-sound : goal.save-requires-clause-sound
save-requires-clause-sound g c =
    let v = c.args.self.now in let n = c.args.node in
    let at = node-in-turn (slice_get v.nodes n) (turn.Saving c.in-Saving.turn) (sym c.take_turn.ensures.turn ∙ (c.in-Some.is ∙ ap (λ t. Some t) c.in-Saving.is)) in
    subst (λ x. IfSome (slice_get x.nodes n) (λ y. g.H.Handlers.sound x.handlers n y.state)) (sym c.take_turn.ensures.new)
    (out-state (promises_of g.H.Handlers v.handlers) v c.requires.sound n at.0 at.1)

pub save-requires-clause-acts : goal.save-requires-clause-acts
save-requires-clause-acts g c =
    let v = c.args.self.now in let n = c.args.node in let t = c.in-Saving.turn in
    let at = node-in-turn (slice_get v.nodes n) (turn.Saving t) (sym c.take_turn.ensures.turn ∙ (c.in-Some.is ∙ ap (λ t. Some t) c.in-Saving.is)) in
    (saving-sound (promises_of g.H.Handlers v.handlers) v c.requires.sound n at.0 at.1 t at.2).acts

pub save-requires-clause-fits : goal.save-requires-clause-fits
save-requires-clause-fits g c =
    let v = c.args.self.now in let n = c.args.node in let t = c.in-Saving.turn in
    let at = node-in-turn (slice_get v.nodes n) (turn.Saving t) (sym c.take_turn.ensures.turn ∙ (c.in-Some.is ∙ ap (λ t. Some t) c.in-Saving.is)) in
    subst (λ x. x.notes.sent + length t.sends < 2 ^ 32) (sym c.take_turn.ensures.new) (saving-fits (promises_of g.H.Handlers v.handlers) v c.requires.sound n at.0 at.1 c.requires.steps t at.2)

pub tell-requires-clause-node : goal.tell-requires-clause-node
tell-requires-clause-node g c = on-below c.args.self.now c.take_turn.new.self c.args.node (with_turn None) c.take_turn.ensures.new c.requires.node

pub tell-requires-clause-fits : goal.tell-requires-clause-fits
tell-requires-clause-fits g c =
    let v = c.args.self.now in let n = c.args.node in let t = c.in-Telling.turn in
    let at = node-in-turn (slice_get v.nodes n) (turn.Telling t) (sym c.take_turn.ensures.turn ∙ (c.in-Some.is ∙ ap (λ t. Some t) c.in-Telling.is)) in
    telling-fits (promises_of g.H.Handlers v.handlers) v c.requires.sound n at.0 at.1 c.requires.steps t at.2

pub tell-requires-clause-place : goal.tell-requires-clause-place
tell-requires-clause-place g c =
    let v = c.args.self.now in let n = c.args.node in let t = c.in-Telling.turn in
    let at = node-in-turn (slice_get v.nodes n) (turn.Telling t) (sym c.take_turn.ensures.turn ∙ (c.in-Some.is ∙ ap (λ t. Some t) c.in-Telling.is)) in
    subst (λ x. t.place < length x.notes.listed) (sym c.take_turn.ensures.new) (telling-sound (promises_of g.H.Handlers v.handlers) v c.requires.sound n at.0 at.1 t at.2).place

pub tell-requires-clause-more : goal.tell-requires-clause-more
tell-requires-clause-more g c =
    let v = c.args.self.now in let n = c.args.node in let t = c.in-Telling.turn in
    let at = node-in-turn (slice_get v.nodes n) (turn.Telling t) (sym c.take_turn.ensures.turn ∙ (c.in-Some.is ∙ ap (λ t. Some t) c.in-Telling.is)) in
    (telling-sound (promises_of g.H.Handlers v.handlers) v c.requires.sound n at.0 at.1 t at.2).more

pub returns-in-Saving-clause-handlers : goal.returns-in-Saving-clause-handlers
returns-in-Saving-clause-handlers g c = c.save.ensures.handlers ∙ ap (λ v. v.handlers) c.take_turn.ensures.new

pub returns-in-Telling-clause-handlers : goal.returns-in-Telling-clause-handlers
returns-in-Telling-clause-handlers g c = c.tell.ensures.handlers ∙ ap (λ v. v.handlers) c.take_turn.ensures.new
