use Rattle.std.proofs.Common.{◌∙◌, ap, arith, refl, subst, sym}
use Rattle.handler_trait.specs.Facts.{reboot_promises_of, rebootable_facts}
use Rattle.act_network.specs.ActRefusals.{act_refusal}
use Rattle.act_network.specs.declared.step.ActStep.TheVariants as act
use Rattle.act_world.specs.Moves.{StartsSo, TakesAct, one_taken}
use Rattle.act_world.proofs.Answering.{answers-memory, answers-refused, answers-taken, start-at}
use Rattle.act_world.proofs.Refusing.{Tells, start-tells}
use Rattle.act_world.proofs.Stepping.{start-takes}
use Rattle.act_world.proofs.world.ActWorld.take_reboot.Goals as goal

pub returns-in_err-node : goal.returns-in_err-node
returns-in_err-node g c =
    let v = c.args.self.now in
    let facts = rebootable_facts g.H.Handlers g.H.Rebootable in
    let h = reboot_promises_of facts v.handlers in
    let d = g.D.SavesStates.disks in
    answers-refused h d (act.Reboot c.args.n) v v _ c.from_residual.result c.from_residual.ensures.1
    (λ w sh. subst (λ r. Tells r (act_refusal h.handlers.meaning w (act.Reboot c.args.n))) (sym c.in_err-node.ensures)
    (start-tells h.handlers.meaning v w sh c.requires.sound.nodes c.args.n)) refl

pub returns-in_err-start : goal.returns-in_err-start
returns-in_err-start g c =
    let v = c.args.self.now in
    let facts = rebootable_facts g.H.Handlers g.H.Rebootable in
    let h = reboot_promises_of facts v.handlers in
    let d = g.D.SavesStates.disks in
    answers-memory h d (act.Reboot c.args.n) v c.start.new.self c.from_residual-in_err-start.result c.from_residual-in_err-start.ensures.1
    (λ w sh. subst (λ r. Tells r (act_refusal h.handlers.meaning w (act.Reboot c.args.n))) (sym c.in_ok-node.ensures)
    (start-tells h.handlers.meaning v w sh c.requires.sound.nodes c.args.n))
    (c.start.ensures.handlers)

pub returns : goal.returns
returns g c =
    let v = c.args.self.now in let n = c.args.n in
    let facts = rebootable_facts g.H.Handlers g.H.Rebootable in
    let h = reboot_promises_of facts v.handlers in
    let d = g.D.SavesStates.disks in
    let at = start-at h.handlers.meaning v n c.in_ok-node.node c.in_ok-node.ensures in
    let so = subst (λ j. StartsSo d j v c.start.new.self h.recovery h.fits (h.handlers.sound j)) (at.0) c.in_ok-start.ensures.starts in
    let takes = start-takes h d v n c.requires.sound c.requires.steps (λ k fit. g.met.H.Rebootable.rebooted_fresh v.handlers n k at.1 fit) c.start.new.self so in
    answers-taken h d (act.Reboot n) v _ _
    (λ w sh. subst (λ r. Tells r (act_refusal h.handlers.meaning w (act.Reboot n))) (sym c.in_ok-node.ensures) (start-tells h.handlers.meaning v w sh c.requires.sound.nodes n))
    (subst (TakesAct h d (act.Reboot n) v) (sym (ap one_taken c.self.view_is)) takes)
    (ap (λ y. y.handlers) c.self.view_is ∙ c.start.ensures.handlers)

pub start-requires-clause-node : goal.start-requires-clause-node
start-requires-clause-node g c =
    let v = c.args.self.now in
    let at = start-at (g.H.Handlers.meaning v.handlers) v c.args.n c.in_ok-node.node c.in_ok-node.ensures in
    let same = at.0 in let lt = at.1 in let size = c.requires.sound.nodes in
    omega (arith, same, lt, size)

pub start-requires-clause-exists : goal.start-requires-clause-exists
start-requires-clause-exists g c =
    let v = c.args.self.now in
    let at = start-at (g.H.Handlers.meaning v.handlers) v c.args.n c.in_ok-node.node c.in_ok-node.ensures in
    rw (at.0) (at.1)

pub start-requires-clause-down : goal.start-requires-clause-down
start-requires-clause-down g c =
    let v = c.args.self.now in
    let at = start-at (g.H.Handlers.meaning v.handlers) v c.args.n c.in_ok-node.node c.in_ok-node.ensures in
    rw (at.0) (at.2)

pub overflow_add-self : goal.overflow_add-self
overflow_add-self g c =
    let v = c.args.self.now in let n = c.args.n in
    let facts = rebootable_facts g.H.Handlers g.H.Rebootable in
    let h = reboot_promises_of facts v.handlers in
    let d = g.D.SavesStates.disks in
    let at = start-at h.handlers.meaning v n c.in_ok-node.node c.in_ok-node.ensures in
    let so = subst (λ j. StartsSo d j v c.start.new.self h.recovery h.fits (h.handlers.sound j)) (at.0) c.in_ok-start.ensures.starts in
    let counts = (start-takes h d v n c.requires.sound c.requires.steps (λ k fit. g.met.H.Rebootable.rebooted_fresh v.handlers n k at.1 fit) c.start.new.self so).counts in
    let seen = ap (λ y. y.taken) c.self.view_is in
    omega (arith, counts, seen, c.requires.steps)
