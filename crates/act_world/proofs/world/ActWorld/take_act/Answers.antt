use Rattle.std.proofs.Common.{◌∙◌, ap, arith, refl, subst, sym}
use Rattle.handler_trait.specs.Facts.{reboot_promises_of, rebootable_facts}
use Rattle.act_network.specs.ActRefusals.{act_refusal}
use Rattle.act_network.specs.declared.step.ActStep.TheVariants as act
use Rattle.act_world.specs.Moves.{TakesAct, one_taken}
use Rattle.act_world.proofs.Answering.{answers-memory, answers-refused, answers-taken, go_on-at}
use Rattle.act_world.proofs.Refusing.{Tells, go_on-tells}
use Rattle.act_world.proofs.world.ActWorld.take_act.Goals as goal

pub returns-in_err-node : goal.returns-in_err-node
returns-in_err-node g c =
    let v = c.args.self.now in
    let facts = rebootable_facts g.H.Handlers g.H.Rebootable in
    let h = reboot_promises_of facts v.handlers in
    let d = g.D.SavesStates.disks in
    answers-refused h d (act.Act c.args.n) v v _ c.from_residual.result c.from_residual.ensures.1
    (λ w sh. subst (λ r. Tells r (act_refusal h.handlers.meaning w (act.Act c.args.n))) (sym c.in_err-node.ensures) (go_on-tells h.handlers.meaning v w sh c.requires.sound.nodes c.args.n)) refl

pub returns-in_err-go_on : goal.returns-in_err-go_on
returns-in_err-go_on g c =
    let v = c.args.self.now in
    let facts = rebootable_facts g.H.Handlers g.H.Rebootable in
    let h = reboot_promises_of facts v.handlers in
    let d = g.D.SavesStates.disks in
    answers-memory h d (act.Act c.args.n) v c.go_on.new.self c.from_residual-in_err-go_on.result c.from_residual-in_err-go_on.ensures.1
    (λ w sh. subst (λ r. Tells r (act_refusal h.handlers.meaning w (act.Act c.args.n))) (sym c.in_ok-node.ensures) (go_on-tells h.handlers.meaning v w sh c.requires.sound.nodes c.args.n))
    (c.go_on.ensures.handlers)

pub returns : goal.returns
returns g c =
    let v = c.args.self.now in
    let facts = rebootable_facts g.H.Handlers g.H.Rebootable in
    let h = reboot_promises_of facts v.handlers in
    let d = g.D.SavesStates.disks in
    let at = go_on-at h.handlers.meaning v c.args.n c.in_ok-node.node c.in_ok-node.ensures in
    let takes = subst (λ j. TakesAct h d (act.Act j) v (one_taken c.go_on.new.self)) (at.0) c.in_ok-go_on.ensures.goes in
    answers-taken h d (act.Act c.args.n) v _ _
    (λ w sh. subst (λ r. Tells r (act_refusal h.handlers.meaning w (act.Act c.args.n))) (sym c.in_ok-node.ensures) (go_on-tells h.handlers.meaning v w sh c.requires.sound.nodes c.args.n))
    (subst (TakesAct h d (act.Act c.args.n) v) (sym (ap one_taken c.self.view_is)) takes)
    (ap (λ x. x.handlers) c.self.view_is ∙ c.go_on.ensures.handlers)

pub go_on-requires-clause-node : goal.go_on-requires-clause-node
go_on-requires-clause-node g c =
    let v = c.args.self.now in
    let m = g.H.Handlers.meaning v.handlers in
    let at = go_on-at m v c.args.n c.in_ok-node.node c.in_ok-node.ensures in
    let same = at.0 in let lt = at.1 in let size = c.requires.sound.nodes in
    omega (arith, same, lt, size)

pub go_on-requires-clause-up : goal.go_on-requires-clause-up
go_on-requires-clause-up g c =
    let v = c.args.self.now in
    let at = go_on-at (g.H.Handlers.meaning v.handlers) v c.args.n c.in_ok-node.node c.in_ok-node.ensures in
    rw (at.0) (at.2)

pub go_on-requires-clause-busy : goal.go_on-requires-clause-busy
go_on-requires-clause-busy g c =
    let v = c.args.self.now in
    let at = go_on-at (g.H.Handlers.meaning v.handlers) v c.args.n c.in_ok-node.node c.in_ok-node.ensures in
    rw (at.0) (at.3)

pub overflow_add-self : goal.overflow_add-self
overflow_add-self g c =
    let counts = c.in_ok-go_on.ensures.goes.counts in
    let seen = ap (λ x. x.taken) c.self.view_is in
    omega (arith, counts, seen, c.requires.steps)
