use Rattle.std.proofs.Common.{◌∙◌, ◌<◌, ap, arith, refl, subst, sym}
use Rattle.std.specs.Prelude.{IfSome, slice_get}
use Rattle.handler_trait.specs.Facts.{reboot_promises_of, rebootable_facts}
use Rattle.net_semantics.proofs.Taken.{modest_most}
use Rattle.act_network.specs.ActRefusals.{act_refusal}
use Rattle.act_network.specs.declared.step.ActStep.TheVariants as act
use Rattle.vst_base.specs.declared.step.Step.TheVariants as step
use Rattle.act_world.specs.Flights.{flight_copies}
use Rattle.act_world.specs.Moves.{Begins, one_taken}
use Rattle.act_world.proofs.Answering.{answers-memory, answers-refused, answers-taken, deliver-at}
use Rattle.act_world.proofs.Arriving.{come-below, come-exists, come-fits, come-handlers, come-stands, come-takes, ends-below, last-handlers, last-taken}
use Rattle.act_world.proofs.Coding.{flight-below, flight-there}
use Rattle.act_world.proofs.Refusing.{Tells, deliver-tells}
use Rattle.act_world.proofs.world.ActWorld.take_deliver.Goals as goal

pub returns-in_err-flight : goal.returns-in_err-flight
returns-in_err-flight g c =
    let v = c.args.self.now in
    let facts = rebootable_facts g.H.Handlers g.H.Rebootable in
    let h = reboot_promises_of facts v.handlers in
    let d = g.D.SavesStates.disks in
    answers-refused h d (act.Deliver c.args.k) v v _ c.from_residual.result c.from_residual.ensures.1
    (λ w sh. subst (λ r. Tells r (act_refusal h.handlers.meaning w (act.Deliver c.args.k))) (sym c.in_err-flight.ensures)
    (deliver-tells h.handlers.meaning v w sh c.requires.sound.nodes c.args.k (ends-below h.handlers v c.requires.sound c.args.k))) refl

pub index-sent-requires : goal.index-sent-requires
index-sent-requires g c =
    let v = c.args.self.now in let i = c.self.inside in
    let at = deliver-at v c.args.k c.in_ok-flight.flight c.in_ok-flight.ensures in
    let copy : 0 < flight_copies (slice_get v.flights c.args.k) = subst (λ o. 0 < flight_copies o) (sym at.there) at.copy in
    let lt = flight-below i.handlers i.nodes.items i.flights.items i.notes i.taken v c.self.view_is c.args.k c.in_ok-flight.flight at.flight at.same copy in
    let size = i.flights.ok.0 in omega (arith, lt, size)

pub message_event-requires-clause-copy : goal.message_event-requires-clause-copy
message_event-requires-clause-copy g c =
    let v = c.args.self.now in
    let at = deliver-at v c.args.k c.in_ok-flight.flight c.in_ok-flight.ensures in
    subst (λ j. 0 < flight_copies (slice_get v.flights j)) (sym at.same) (subst (λ o. 0 < flight_copies o) (sym at.there) at.copy)

pub returns-in_err-effects : goal.returns-in_err-effects
returns-in_err-effects g c =
    let v = c.args.self.now in
    let facts = rebootable_facts g.H.Handlers g.H.Rebootable in
    let h = reboot_promises_of facts v.handlers in
    let d = g.D.SavesStates.disks in
    answers-memory h d (act.Deliver c.args.k) v c.message_event.new.self c.from_residual-in_err-effects.result c.from_residual-in_err-effects.ensures.1
    (λ w sh. subst (λ r. Tells r (act_refusal h.handlers.meaning w (act.Deliver c.args.k))) (sym c.in_ok-flight.ensures)
    (deliver-tells h.handlers.meaning v w sh c.requires.sound.nodes c.args.k (ends-below h.handlers v c.requires.sound c.args.k)))
    (c.message_event.ensures.handlers)

pub returns-in_err-begin : goal.returns-in_err-begin
returns-in_err-begin g c =
    let v = c.args.self.now in
    let facts = rebootable_facts g.H.Handlers g.H.Rebootable in
    let h = reboot_promises_of facts v.handlers in
    let d = g.D.SavesStates.disks in
    answers-memory h d (act.Deliver c.args.k) v c.begin.new.self c.from_residual-in_err-begin.result c.from_residual-in_err-begin.ensures.1
    (λ w sh. subst (λ r. Tells r (act_refusal h.handlers.meaning w (act.Deliver c.args.k))) (sym c.in_ok-flight.ensures)
    (deliver-tells h.handlers.meaning v w sh c.requires.sound.nodes c.args.k (ends-below h.handlers v c.requires.sound c.args.k)))
    (c.begin.ensures.handlers ∙ c.message_event.ensures.handlers)

pub begin-requires-clause-node : goal.begin-requires-clause-node
begin-requires-clause-node g c =
    let v = c.args.self.now in
    let facts = rebootable_facts g.H.Handlers g.H.Rebootable in
    let h = reboot_promises_of facts v.handlers in
    let d = g.D.SavesStates.disks in
    let i = c.self.inside in let f = c.index-sent.result.now in
    let at = deliver-at v c.args.k c.in_ok-flight.flight c.in_ok-flight.ensures in
    let copy : 0 < flight_copies (slice_get v.flights c.args.k) = subst (λ o. 0 < flight_copies o) (sym at.there) at.copy in
    let there = flight-there i.handlers i.nodes.items i.flights.items i.notes i.taken v c.self.view_is c.args.k c.in_ok-flight.flight f at.same copy c.index-sent.ensures in
    let mid = c.message_event.new.self in let effects = c.in_ok-effects.effects in let came = c.in_ok-effects.ensures.delivers in
    come-below h d v mid c.args.k c.in_ok-flight.flight effects c.requires.sound c.requires.steps at came
    (λ n s from m below from-below ok. modest_most g.met.H.Handlers.few_sends (g.met.H.Handlers.modest_message v.handlers n s from m below from-below ok)) f there c.destination-node.result c.destination-node.ensures

pub begin-requires-clause-exists : goal.begin-requires-clause-exists
begin-requires-clause-exists g c =
    let v = c.args.self.now in
    let facts = rebootable_facts g.H.Handlers g.H.Rebootable in
    let h = reboot_promises_of facts v.handlers in
    let d = g.D.SavesStates.disks in
    let i = c.self.inside in let f = c.index-sent.result.now in
    let at = deliver-at v c.args.k c.in_ok-flight.flight c.in_ok-flight.ensures in
    let copy : 0 < flight_copies (slice_get v.flights c.args.k) = subst (λ o. 0 < flight_copies o) (sym at.there) at.copy in
    let there = flight-there i.handlers i.nodes.items i.flights.items i.notes i.taken v c.self.view_is c.args.k c.in_ok-flight.flight f at.same copy c.index-sent.ensures in
    let mid = c.message_event.new.self in let effects = c.in_ok-effects.effects in let came = c.in_ok-effects.ensures.delivers in
    let handlers = come-handlers h d v mid c.args.k c.in_ok-flight.flight effects c.requires.sound c.requires.steps at came
    (λ n s from m below from-below ok. modest_most g.met.H.Handlers.few_sends (g.met.H.Handlers.modest_message v.handlers n s from m below from-below ok)) in
    subst (λ x. c.destination-node.result < (g.H.Handlers.meaning x).nodes) (sym handlers) (come-exists h d v mid c.args.k c.in_ok-flight.flight effects c.requires.sound c.requires.steps at came
    (λ n s from m below from-below ok. modest_most g.met.H.Handlers.few_sends (g.met.H.Handlers.modest_message v.handlers n s from m below from-below ok)) f there c.destination-node.result c.destination-node.ensures)

pub begin-requires-clause-sound : goal.begin-requires-clause-sound
begin-requires-clause-sound g c =
    let v = c.args.self.now in
    let facts = rebootable_facts g.H.Handlers g.H.Rebootable in
    let h = reboot_promises_of facts v.handlers in
    let d = g.D.SavesStates.disks in
    let i = c.self.inside in let f = c.index-sent.result.now in
    let at = deliver-at v c.args.k c.in_ok-flight.flight c.in_ok-flight.ensures in
    let copy : 0 < flight_copies (slice_get v.flights c.args.k) = subst (λ o. 0 < flight_copies o) (sym at.there) at.copy in
    let there = flight-there i.handlers i.nodes.items i.flights.items i.notes i.taken v c.self.view_is c.args.k c.in_ok-flight.flight f at.same copy c.index-sent.ensures in
    let mid = c.message_event.new.self in let effects = c.in_ok-effects.effects in let came = c.in_ok-effects.ensures.delivers in
    let handlers = come-handlers h d v mid c.args.k c.in_ok-flight.flight effects c.requires.sound c.requires.steps at came
    (λ n s from m below from-below ok. modest_most g.met.H.Handlers.few_sends (g.met.H.Handlers.modest_message v.handlers n s from m below from-below ok)) in
    subst (λ x. IfSome (slice_get mid.nodes c.destination-node.result) (λ y. g.H.Handlers.sound x c.destination-node.result y.state)) (sym handlers) (come-stands h d v mid c.args.k c.in_ok-flight.flight effects c.requires.sound c.requires.steps at came
    (λ n s from m below from-below ok. modest_most g.met.H.Handlers.few_sends (g.met.H.Handlers.modest_message v.handlers n s from m below from-below ok)) f there c.destination-node.result c.destination-node.ensures)

pub begin-requires-clause-fits : goal.begin-requires-clause-fits
begin-requires-clause-fits g c =
    let v = c.args.self.now in
    let facts = rebootable_facts g.H.Handlers g.H.Rebootable in
    let h = reboot_promises_of facts v.handlers in
    let d = g.D.SavesStates.disks in
    let i = c.self.inside in let f = c.index-sent.result.now in
    let at = deliver-at v c.args.k c.in_ok-flight.flight c.in_ok-flight.ensures in
    let copy : 0 < flight_copies (slice_get v.flights c.args.k) = subst (λ o. 0 < flight_copies o) (sym at.there) at.copy in
    let there = flight-there i.handlers i.nodes.items i.flights.items i.notes i.taken v c.self.view_is c.args.k c.in_ok-flight.flight f at.same copy c.index-sent.ensures in
    let mid = c.message_event.new.self in let effects = c.in_ok-effects.effects in let came = c.in_ok-effects.ensures.delivers in
    come-fits h d v mid c.args.k c.in_ok-flight.flight effects c.requires.sound c.requires.steps at came
    (λ n s from m below from-below ok. modest_most g.met.H.Handlers.few_sends (g.met.H.Handlers.modest_message v.handlers n s from m below from-below ok))

pub overflow_add-self : goal.overflow_add-self
overflow_add-self g c =
    let v = c.args.self.now in
    let facts = rebootable_facts g.H.Handlers g.H.Rebootable in
    let h = reboot_promises_of facts v.handlers in
    let d = g.D.SavesStates.disks in
    let i = c.self.inside in let f = c.index-sent.result.now in
    let at = deliver-at v c.args.k c.in_ok-flight.flight c.in_ok-flight.ensures in
    let copy : 0 < flight_copies (slice_get v.flights c.args.k) = subst (λ o. 0 < flight_copies o) (sym at.there) at.copy in
    let there = flight-there i.handlers i.nodes.items i.flights.items i.notes i.taken v c.self.view_is c.args.k c.in_ok-flight.flight f at.same copy c.index-sent.ensures in
    let mid = c.message_event.new.self in let effects = c.in_ok-effects.effects in let came = c.in_ok-effects.ensures.delivers in
    let handlers = come-handlers h d v mid c.args.k c.in_ok-flight.flight effects c.requires.sound c.requires.steps at came
    (λ n s from m below from-below ok. modest_most g.met.H.Handlers.few_sends (g.met.H.Handlers.modest_message v.handlers n s from m below from-below ok)) in
    let bg = subst (λ x. Begins d (g.H.Rebootable.recovery x).keep c.destination-node.result (step.Deliver c.number-number.result) effects mid c.begin.new.self) handlers c.in_ok-begin.ensures.begins in
    let taken = last-taken h d v mid c.args.k c.in_ok-flight.flight effects c.requires.sound c.requires.steps at came
    (λ n s from m below from-below ok. modest_most g.met.H.Handlers.few_sends (g.met.H.Handlers.modest_message v.handlers n s from m below from-below ok)) f there c.destination-node.result c.destination-node.ensures c.number-number.result c.number-number.ensures c.begin.new.self bg in
    let seen = ap (λ x. x.taken) c.self-2.view_is in
    omega (arith, taken, seen, c.requires.steps)

pub returns : goal.returns
returns g c =
    let v = c.args.self.now in
    let facts = rebootable_facts g.H.Handlers g.H.Rebootable in
    let h = reboot_promises_of facts v.handlers in
    let d = g.D.SavesStates.disks in
    let i = c.self.inside in let f = c.index-sent.result.now in
    let at = deliver-at v c.args.k c.in_ok-flight.flight c.in_ok-flight.ensures in
    let copy : 0 < flight_copies (slice_get v.flights c.args.k) = subst (λ o. 0 < flight_copies o) (sym at.there) at.copy in
    let there = flight-there i.handlers i.nodes.items i.flights.items i.notes i.taken v c.self.view_is c.args.k c.in_ok-flight.flight f at.same copy c.index-sent.ensures in
    let mid = c.message_event.new.self in let effects = c.in_ok-effects.effects in let came = c.in_ok-effects.ensures.delivers in
    let handlers = come-handlers h d v mid c.args.k c.in_ok-flight.flight effects c.requires.sound c.requires.steps at came
    (λ n s from m below from-below ok. modest_most g.met.H.Handlers.few_sends (g.met.H.Handlers.modest_message v.handlers n s from m below from-below ok)) in
    let bg = subst (λ x. Begins d (g.H.Rebootable.recovery x).keep c.destination-node.result (step.Deliver c.number-number.result) effects mid c.begin.new.self) handlers c.in_ok-begin.ensures.begins in
    answers-taken h d (act.Deliver c.args.k) v _ _
    (λ w sh. subst (λ r. Tells r (act_refusal h.handlers.meaning w (act.Deliver c.args.k))) (sym c.in_ok-flight.ensures)
    (deliver-tells h.handlers.meaning v w sh c.requires.sound.nodes c.args.k (ends-below h.handlers v c.requires.sound c.args.k)))
    (come-takes h d v mid c.args.k c.in_ok-flight.flight effects c.requires.sound c.requires.steps at came
    (λ n s from m below from-below ok. modest_most g.met.H.Handlers.few_sends (g.met.H.Handlers.modest_message v.handlers n s from m below from-below ok)) f there c.destination-node.result c.destination-node.ensures c.number-number.result c.number-number.ensures c.begin.new.self bg _ (ap one_taken c.self-2.view_is))
    (ap (λ x. x.handlers) c.self-2.view_is ∙ last-handlers h d v mid c.args.k c.in_ok-flight.flight effects c.requires.sound c.requires.steps at came
    (λ n s from m below from-below ok. modest_most g.met.H.Handlers.few_sends (g.met.H.Handlers.modest_message v.handlers n s from m below from-below ok)) f there c.destination-node.result c.destination-node.ensures c.number-number.result c.number-number.ensures c.begin.new.self bg)
