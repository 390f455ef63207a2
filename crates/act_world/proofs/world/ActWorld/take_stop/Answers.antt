use Rattle.std.proofs.Common.{◌≡◌, ◌∙◌, None, ap, arith, refl, subst, sym}
use Rattle.handler_trait.specs.Facts.{reboot_promises_of, rebootable_facts}
use Rattle.act_network.specs.ActRefusals.{act_refusal}
use Rattle.act_network.specs.declared.step.ActStep.TheVariants as act
use Rattle.act_world.specs.Moves.{StopsSo, TakesAct, one_taken}
use Rattle.act_world.specs.Refusals.{left_at}
use Rattle.act_world.proofs.Answering.{answers-memory, answers-refused, answers-taken, stop-at}
use Rattle.act_world.proofs.Refusing.{Tells, stop-tells}
use Rattle.act_world.proofs.Stepping.{stop-takes}
use Rattle.act_world.proofs.world.ActWorld.take_stop.Goals as goal

pub returns-in_err-node : goal.returns-in_err-node
returns-in_err-node g c =
    let v = c.args.self.now in
    let facts = rebootable_facts g.H.Handlers g.H.Rebootable in
    let h = reboot_promises_of facts v.handlers in
    let d = g.D.SavesStates.disks in
    answers-refused h d (act.Stop c.args.n c.args.left) v v _ c.from_residual.result c.from_residual.ensures.1
    (λ w sh. subst (λ r. Tells r (act_refusal h.handlers.meaning w (act.Stop c.args.n c.args.left))) (sym c.in_err-node.ensures)
    (stop-tells h.handlers.meaning v w sh c.requires.sound.nodes c.args.n c.args.left)) refl

pub returns-in_err-stop : goal.returns-in_err-stop
returns-in_err-stop g c =
    let v = c.args.self.now in
    let facts = rebootable_facts g.H.Handlers g.H.Rebootable in
    let h = reboot_promises_of facts v.handlers in
    let d = g.D.SavesStates.disks in
    answers-memory h d (act.Stop c.args.n c.args.left) v c.stop.new.self c.from_residual-in_err-stop.result c.from_residual-in_err-stop.ensures.1
    (λ w sh. subst (λ r. Tells r (act_refusal h.handlers.meaning w (act.Stop c.args.n c.args.left))) (sym c.in_ok-node.ensures)
    (stop-tells h.handlers.meaning v w sh c.requires.sound.nodes c.args.n c.args.left))
    (c.stop.ensures.handlers)

pub returns : goal.returns
returns g c =
    let v = c.args.self.now in let n = c.args.n in let x = c.args.left in
    let facts = rebootable_facts g.H.Handlers g.H.Rebootable in
    let h = reboot_promises_of facts v.handlers in
    let d = g.D.SavesStates.disks in
    let at = stop-at h.handlers.meaning v n c.in_ok-node.node c.in_ok-node.ensures in
    let so = subst (λ j. StopsSo d j v c.stop.new.self x) (at.0) c.in_ok-stop.ensures.stops in
    let left = subst (λ o. left_at o ≡ None) so.there at.2 in
    let takes = stop-takes h d v n c.requires.sound c.requires.steps at.1 so.node so.there left x c.stop.new.self so.after_is in
    answers-taken h d (act.Stop n x) v _ _
    (λ w sh. subst (λ r. Tells r (act_refusal h.handlers.meaning w (act.Stop n x))) (sym c.in_ok-node.ensures) (stop-tells h.handlers.meaning v w sh c.requires.sound.nodes n x))
    (subst (TakesAct h d (act.Stop n x) v) (sym (ap one_taken c.self.view_is)) takes)
    (ap (λ y. y.handlers) c.self.view_is ∙ c.stop.ensures.handlers)

pub stop-requires-clause-node : goal.stop-requires-clause-node
stop-requires-clause-node g c =
    let v = c.args.self.now in
    let at = stop-at (g.H.Handlers.meaning v.handlers) v c.args.n c.in_ok-node.node c.in_ok-node.ensures in
    rw (at.0) (at.1)

pub overflow_add-self : goal.overflow_add-self
overflow_add-self g c =
    let v = c.args.self.now in let n = c.args.n in let x = c.args.left in
    let facts = rebootable_facts g.H.Handlers g.H.Rebootable in
    let h = reboot_promises_of facts v.handlers in
    let d = g.D.SavesStates.disks in
    let at = stop-at h.handlers.meaning v n c.in_ok-node.node c.in_ok-node.ensures in
    let so = subst (λ j. StopsSo d j v c.stop.new.self x) (at.0) c.in_ok-stop.ensures.stops in
    let left = subst (λ o. left_at o ≡ None) so.there at.2 in
    let counts = (stop-takes h d v n c.requires.sound c.requires.steps at.1 so.node so.there left x c.stop.new.self so.after_is).counts in
    let seen = ap (λ y. y.taken) c.self.view_is in
    omega (arith, counts, seen, c.requires.steps)
