use Rattle.std.proofs.Common.{◌≡◌, ◌<◌, Some, ap, length, refl, subst, sym, ◌∙◌}
use Rattle.std.specs.Prelude.{IsSome, slice_get}
use Rattle.std.proofs.lemmas.Result.{on_ok_weaker}
use Rattle.lists.specs.Options.{of_some, some_holds}
use Rattle.vst_base.specs.declared.step.Step.TheVariants as step
use Rattle.act_world.specs.Moves.{starts_from}
use Rattle.act_world.specs.Nodes.{started}
use Rattle.act_world.specs.Refusals.{left_at}
use Rattle.act_world.proofs.Coding.{node-there}
use Rattle.act_world.proofs.Delivering.{noted-set}
use Rattle.act_world.proofs.world.ActWorld.start_from.Goals as goal

pub returns-clause-starts : goal.returns-clause-starts
returns-clause-starts g c =
    let v = c.args.self.now in let i = c.self.inside in let node = c.index_mut-at.result.now in let n = c.args.node in
    let d = g.D.SavesStates.disks in let r = g.H.Rebootable.recovery v.handlers in let left = c.in-Some.left in
    let handlers : i.handlers ≡ v.handlers = ap (λ x. x.handlers) c.self.view_is in
    let below : n < length i.nodes.items = subst (λ x. n < length x.nodes) (sym c.self.view_is) c.requires.node in
    let there = node-there i.handlers i.nodes.items i.flights.items i.notes i.taken v c.self.view_is n c.place.result node c.place.ensures below c.index_mut-at.ensures.value in
    let was = sym c.take.ensures.value ∙ c.in-Some.is in
    let state = c.in_ok-state.ensures.reboots ∙ ap (λ h. (g.H.Rebootable.recovery h).reboot n c.args.kept) handlers in
    on_ok_weaker c.add.result (λ done. some_holds (λ x. _ ≡ starts_from r d v n x (Some c.args.kept)) (left_at (slice_get v.nodes n)) left (ap left_at there ∙ was)
    (noted-set i.handlers i.nodes.items i.flights.items i.notes i.taken v c.self.view_is n c.place.result node c.place.ensures below
    c.index_mut-at.ensures.value (started (r.reboot n c.args.kept) (d.reopened n left)) (record { state = c.in_ok-state.state; disk = c.reopen.new.disk; turn = node.turn; left = c.take.new.self })
    (rw (state, c.in_ok-reopen.ensures, c.take.ensures.after) refl)
    c.add.new.self (step.Reboot c.from.result) (step.Reboot n) done (ap step.Reboot (c.from.ensures ∙ c.index.ensures)))) c.add.ensures

pub returns-clause-sound : goal.returns-clause-sound
returns-clause-sound g c =
    let v = c.args.self.now in let n = c.args.node in
    let handlers : c.self.inside.handlers ≡ v.handlers = ap (λ x. x.handlers) c.self.view_is in
    let state = c.in_ok-state.ensures.reboots ∙ ap (λ h. (g.H.Rebootable.recovery h).reboot n c.args.kept) handlers in
    on_ok_weaker c.add.result (λ _. subst (λ s. g.H.Handlers.sound v.handlers n s) state (subst (λ h. g.H.Handlers.sound h n c.in_ok-state.state) handlers c.in_ok-state.ensures.sound)) c.add.ensures

pub reopen-requires-clause-opens : goal.reopen-requires-clause-opens
reopen-requires-clause-opens g c =
    let v = c.args.self.now in let i = c.self.inside in let node = c.index_mut-at.result.now in let n = c.args.node in let left = c.in-Some.left in
    let below : n < length i.nodes.items = subst (λ x. n < length x.nodes) (sym c.self.view_is) c.requires.node in
    let there = node-there i.handlers i.nodes.items i.flights.items i.notes i.taken v c.self.view_is n c.place.result node c.place.ensures below c.index_mut-at.ensures.value in
    let was = sym c.take.ensures.value ∙ c.in-Some.is in
    let opens = of_some (λ x. g.D.SavesStates.disks.opens n x ≡ Some c.args.kept) (left_at (slice_get v.nodes n)) left (ap left_at there ∙ was) c.requires.opens in
    subst IsSome (sym opens) refl
