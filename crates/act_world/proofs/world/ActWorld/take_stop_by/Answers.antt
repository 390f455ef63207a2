use Rattle.std.proofs.Common.{◌≡◌, ◌∙◌, ◌<◌, None, ap, arith, refl, subst, sym}
use Rattle.handler_trait.specs.Facts.{reboot_promises_of, rebootable_facts}
use Rattle.vst_base.specs.declared.step.TheConstants.{MAX_STEPS}
use Rattle.act_network.specs.ActRefusals.{act_refusal}
use Rattle.act_network.specs.declared.step.ActStep.TheVariants as act
use Rattle.act_world.specs.ActViews.{IsSoundAct}
use Rattle.act_world.specs.ByWords.{LeavesSo, TakesWord}
use Rattle.act_world.specs.Moves.{StopsSo, one_taken}
use Rattle.act_world.specs.Refusals.{left_at}
use Rattle.act_world.proofs.Answering.{stop-at}
use Rattle.act_world.proofs.Refusing.{Tells, stop-tells}
use Rattle.act_world.proofs.Wording.{mid-sound, word-memory, word-refused, word-taken, word-takes}
use Rattle.act_world.proofs.world.ActWorld.take_stop_by.Goals as goal

pub returns-in_err-node : goal.returns-in_err-node
returns-in_err-node g c =
    let v = c.args.self.now in let n = c.args.n in let word = c.args.word.now in
    let facts = rebootable_facts g.H.Handlers g.H.Rebootable in
    let h = reboot_promises_of facts v.handlers in
    let d = g.D.SavesStates.disks in let b = g.D.LeavesByWord.by_word in
    word-refused h d b word (act.Stop n word) v v _ c.from_residual.result c.from_residual.ensures.1
    (λ w sh. subst (λ r. Tells r (act_refusal h.handlers.meaning w (act.Stop n (b (w.disk n) word)))) (sym c.in_err-node.ensures)
    (stop-tells h.handlers.meaning v w sh c.requires.sound.nodes n (b (w.disk n) word))) refl

pub returns-in_err-left : goal.returns-in_err-left
returns-in_err-left g c =
    let v = c.args.self.now in let n = c.args.n in let word = c.args.word.now in
    let facts = rebootable_facts g.H.Handlers g.H.Rebootable in
    let h = reboot_promises_of facts v.handlers in
    let d = g.D.SavesStates.disks in let b = g.D.LeavesByWord.by_word in
    word-memory h d b word (act.Stop n word) v c.leave.new.self c.from_residual-in_err-left.result c.from_residual-in_err-left.ensures.1
    (λ w sh. subst (λ r. Tells r (act_refusal h.handlers.meaning w (act.Stop n (b (w.disk n) word)))) (sym c.in_ok-node.ensures)
    (stop-tells h.handlers.meaning v w sh c.requires.sound.nodes n (b (w.disk n) word)))
    (c.leave.ensures.handlers)

pub returns-in_err-stop : goal.returns-in_err-stop
returns-in_err-stop g c =
    let v = c.args.self.now in let n = c.args.n in let word = c.args.word.now in
    let facts = rebootable_facts g.H.Handlers g.H.Rebootable in
    let h = reboot_promises_of facts v.handlers in
    let d = g.D.SavesStates.disks in let b = g.D.LeavesByWord.by_word in
    word-memory h d b word (act.Stop n word) v c.stop.new.self c.from_residual-in_err-stop.result c.from_residual-in_err-stop.ensures.1
    (λ w sh. subst (λ r. Tells r (act_refusal h.handlers.meaning w (act.Stop n (b (w.disk n) word)))) (sym c.in_ok-node.ensures)
    (stop-tells h.handlers.meaning v w sh c.requires.sound.nodes n (b (w.disk n) word)))
    (c.stop.ensures.handlers ∙ c.leave.ensures.handlers)

pub returns : goal.returns
returns g c =
    let v = c.args.self.now in let n = c.args.n in let word = c.args.word.now in let x = c.in_ok-left.left in
    let facts = rebootable_facts g.H.Handlers g.H.Rebootable in
    let h = reboot_promises_of facts v.handlers in
    let d = g.D.SavesStates.disks in let b = g.D.LeavesByWord.by_word in
    let at = stop-at h.handlers.meaning v n c.in_ok-node.node c.in_ok-node.ensures in
    let so = subst (λ j. LeavesSo d j v c.leave.new.self (λ disk. b disk word) x) (at.0) c.in_ok-left.ensures.leaves in
    let stop = subst (λ j. StopsSo d j c.leave.new.self c.stop.new.self x) (at.0) c.in_ok-stop.ensures.stops in
    let up = subst (λ o. left_at o ≡ None) so.there at.2 in
    let takes = word-takes h d b word v c.leave.new.self c.stop.new.self n c.requires.sound c.requires.steps at.1 x so stop up in
    word-taken h d b word (act.Stop n word) v _ _
    (λ w sh. subst (λ r. Tells r (act_refusal h.handlers.meaning w (act.Stop n (b (w.disk n) word)))) (sym c.in_ok-node.ensures)
    (stop-tells h.handlers.meaning v w sh c.requires.sound.nodes n (b (w.disk n) word)))
    (subst (TakesWord d b h (act.Stop n word) v) (sym (ap one_taken c.self.view_is)) takes)
    (ap (λ y. y.handlers) c.self.view_is ∙ (c.stop.ensures.handlers ∙ c.leave.ensures.handlers))

pub leave-requires : goal.leave-requires
leave-requires g c =
    let v = c.args.self.now in
    let at = stop-at (g.H.Handlers.meaning v.handlers) v c.args.n c.in_ok-node.node c.in_ok-node.ensures in
    subst (λ k. c.in_ok-node.node < k) (sym c.requires.sound.nodes) (subst (λ j. j < (g.H.Handlers.meaning v.handlers).nodes) (sym at.0) at.1)

pub stop-requires-clause-sound : goal.stop-requires-clause-sound
stop-requires-clause-sound g c =
    let v = c.args.self.now in let word = c.args.word.now in
    let facts = rebootable_facts g.H.Handlers g.H.Rebootable in
    let h = reboot_promises_of facts v.handlers in
    let d = g.D.SavesStates.disks in let b = g.D.LeavesByWord.by_word in
    let at = stop-at h.handlers.meaning v c.args.n c.in_ok-node.node c.in_ok-node.ensures in
    let below = subst (λ j. j < h.handlers.meaning.nodes) (sym at.0) at.1 in
    subst (λ x. IsSoundAct (record { meaning = facts.meaning x; sound = facts.sound x; spent = facts.spent x }) c.leave.new.self) (sym c.leave.ensures.handlers)
    (mid-sound h d b word v c.leave.new.self c.leave.new.self c.in_ok-node.node c.requires.sound c.requires.steps below c.in_ok-left.left c.in_ok-left.ensures.leaves)

pub stop-requires-clause-node : goal.stop-requires-clause-node
stop-requires-clause-node g c =
    let v = c.args.self.now in
    let at = stop-at (g.H.Handlers.meaning v.handlers) v c.args.n c.in_ok-node.node c.in_ok-node.ensures in
    subst (λ x. c.in_ok-node.node < (g.H.Handlers.meaning x).nodes) (sym c.leave.ensures.handlers) (subst (λ j. j < (g.H.Handlers.meaning v.handlers).nodes) (sym at.0) at.1)

pub stop-requires-clause-steps : goal.stop-requires-clause-steps
stop-requires-clause-steps g c = subst (λ y. y.taken < MAX_STEPS) (sym c.in_ok-left.ensures.leaves.after_is) c.requires.steps

pub overflow_add-self : goal.overflow_add-self
overflow_add-self g c =
    let v = c.args.self.now in let n = c.args.n in let word = c.args.word.now in let x = c.in_ok-left.left in
    let facts = rebootable_facts g.H.Handlers g.H.Rebootable in
    let h = reboot_promises_of facts v.handlers in
    let d = g.D.SavesStates.disks in let b = g.D.LeavesByWord.by_word in
    let at = stop-at h.handlers.meaning v n c.in_ok-node.node c.in_ok-node.ensures in
    let so = subst (λ j. LeavesSo d j v c.leave.new.self (λ disk. b disk word) x) (at.0) c.in_ok-left.ensures.leaves in
    let stop = subst (λ j. StopsSo d j c.leave.new.self c.stop.new.self x) (at.0) c.in_ok-stop.ensures.stops in
    let up = subst (λ o. left_at o ≡ None) so.there at.2 in
    let counts = (word-takes h d b word v c.leave.new.self c.stop.new.self n c.requires.sound c.requires.steps at.1 x so stop up).counts in
    let seen = ap (λ y. y.taken) c.self.view_is in
    omega (arith, counts, seen, c.requires.steps)
