use Rattle.std.proofs.Common.{◌≡◌, ◌∙◌, ◌<◌, ap, arith, refl, subst, sym}
use Rattle.std.specs.Prelude.{slice_get}
use Rattle.handler_trait.specs.Facts.{reboot_promises_of, rebootable_facts}
use Rattle.lists.specs.Options.{of_some}
use Rattle.net_semantics.specs.Held.{held_less}
use Rattle.net_semantics.specs.Shown.{IsSoundPacket}
use Rattle.act_network.specs.ActRefusals.{act_refusal}
use Rattle.act_network.specs.declared.step.ActStep.TheVariants as act
use Rattle.vst_base.specs.declared.step.Step.TheVariants as step
use Rattle.act_world.specs.Flights.{flight_copies}
use Rattle.act_world.specs.Notes.{noted}
use Rattle.act_world.proofs.Answering.{answers-memory, answers-refused, answers-taken, change-at}
use Rattle.act_world.proofs.Coding.{flight-set, flight-there, sent-below}
use Rattle.act_world.proofs.Copying.{lose-takes}
use Rattle.act_world.proofs.Refusing.{Tells, lose-tells}
use Rattle.act_world.proofs.world.ActWorld.take_lose.Goals as goal

pub index_mut-flight-requires : goal.index_mut-flight-requires
index_mut-flight-requires g c =
    let v = c.args.self.now in let i = c.self.inside in
    let at = change-at v c.args.k c.in_ok-at.at c.in_ok-at.ensures in
    let lt = sent-below i.flights.items c.args.k (subst (λ x. 0 < flight_copies (slice_get x.flights c.args.k)) (sym c.self.view_is) at.1) in
    let same = at.0 in
    let size = i.flights.ok.0 in omega (arith, lt, size, same)

pub take_copy-requires : goal.take_copy-requires
take_copy-requires g c =
    let v = c.args.self.now in let i = c.self.inside in let f = c.index_mut-flight.result.now in
    let at = change-at v c.args.k c.in_ok-at.at c.in_ok-at.ensures in
    let there = flight-there i.handlers i.nodes.items i.flights.items i.notes i.taken v c.self.view_is c.args.k c.in_ok-at.at f at.0 at.1 c.index_mut-flight.ensures.value in
    let copies = ap flight_copies there in
    let sound = of_some (λ x. IsSoundPacket (g.H.Handlers.meaning v.handlers).nodes v.taken x.packet) (slice_get v.flights c.args.k) f there (c.requires.sound.flights c.args.k) in
    let few = sound.copies in
    omega (arith, copies, few, at.1, c.requires.steps)

pub returns-in_err-at : goal.returns-in_err-at
returns-in_err-at g c =
    let v = c.args.self.now in
    let facts = rebootable_facts g.H.Handlers g.H.Rebootable in
    let h = reboot_promises_of facts v.handlers in
    let d = g.D.SavesStates.disks in
    answers-refused h d (act.Lose c.args.k) v v _ c.from_residual.result c.from_residual.ensures.1
    (λ w sh. subst (λ r. Tells r (act_refusal h.handlers.meaning w (act.Lose c.args.k))) (sym c.in_err-at.ensures) (lose-tells h.handlers.meaning v w sh c.requires.sound.nodes c.args.k)) refl

pub returns-in_err-add : goal.returns-in_err-add
returns-in_err-add g c =
    let v = c.args.self.now in
    let facts = rebootable_facts g.H.Handlers g.H.Rebootable in
    let h = reboot_promises_of facts v.handlers in
    let d = g.D.SavesStates.disks in
    answers-memory h d (act.Lose c.args.k) v _ c.from_residual-in_err-add.result c.from_residual-in_err-add.ensures.1
    (λ w sh. subst (λ r. Tells r (act_refusal h.handlers.meaning w (act.Lose c.args.k))) (sym c.in_ok-at.ensures) (lose-tells h.handlers.meaning v w sh c.requires.sound.nodes c.args.k))
    (ap (λ x. x.handlers) c.self.view_is)

pub returns : goal.returns
returns g c =
    let v = c.args.self.now in let i = c.self.inside in let f = c.index_mut-flight.result.now in
    let facts = rebootable_facts g.H.Handlers g.H.Rebootable in
    let h = reboot_promises_of facts v.handlers in
    let d = g.D.SavesStates.disks in
    let at = change-at v c.args.k c.in_ok-at.at c.in_ok-at.ensures in
    let there = flight-there i.handlers i.nodes.items i.flights.items i.notes i.taken v c.self.view_is c.args.k c.in_ok-at.at f at.0 at.1 c.index_mut-flight.ensures.value in
    let number : c.number-number.result ≡ f.number = c.number-number.ensures ∙ ap (λ x. x.number) c.take_copy.ensures in
    let after-is = flight-set i.handlers i.nodes.items i.flights.items i.notes i.taken v c.self.view_is c.args.k c.in_ok-at.at f at.0 at.1 c.index_mut-flight.ensures.value held_less
    c.take_copy.new.self (step.Lose f.number) c.add.new.self c.take_copy.ensures (c.in_ok-add.ensures ∙ ap (λ j. noted i.notes (step.Lose j)) number) in
    answers-taken h d (act.Lose c.args.k) v _ _
    (λ w sh. subst (λ r. Tells r (act_refusal h.handlers.meaning w (act.Lose c.args.k))) (sym c.in_ok-at.ensures) (lose-tells h.handlers.meaning v w sh c.requires.sound.nodes c.args.k))
    (lose-takes h d v c.args.k c.requires.sound c.requires.steps at.1 f there _ after-is)
    (ap (λ x. x.handlers) c.self.view_is)
