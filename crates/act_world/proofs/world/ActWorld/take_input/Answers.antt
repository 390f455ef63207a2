use Rattle.std.proofs.Common.{◌≡◌, ◌∙◌, ◌<◌, ap, arith, refl, subst, sym, true}
use Rattle.handler_trait.specs.Facts.{reboot_promises_of, rebootable_facts}
use Rattle.net_semantics.proofs.Taken.{modest_most}
use Rattle.act_network.specs.ActRefusals.{act_refusal}
use Rattle.act_network.specs.ActWorlds.{Input}
use Rattle.act_network.specs.declared.step.ActStep.TheVariants as act
use Rattle.vst_base.specs.declared.step.Step.TheVariants as step
use Rattle.act_world.specs.Moves.{Begins, one_taken}
use Rattle.act_world.proofs.Answering.{answers-memory, answers-refused, answers-taken, take-at}
use Rattle.act_world.proofs.Beginning.{begin-takes, begins-handlers, begins-taken, mid-below, mid-fits, mid-handlers, mid-stands, mid-taken}
use Rattle.act_world.proofs.Refusing.{Tells, take-tells}
use Rattle.act_world.proofs.world.ActWorld.take_input.Goals as goal

pub returns-in_err-node : goal.returns-in_err-node
returns-in_err-node g c =
    let v = c.args.self.now in
    let facts = rebootable_facts g.H.Handlers g.H.Rebootable in
    let h = reboot_promises_of facts v.handlers in
    let d = g.D.SavesStates.disks in
    answers-refused h d (act.In c.args.n c.args.input) v v _ c.from_residual.result c.from_residual.ensures.1
    (λ w sh. subst (λ r. Tells r (act_refusal h.handlers.meaning w (act.In c.args.n c.args.input))) (sym c.in_err-node.ensures) (take-tells h.handlers.meaning v w sh c.requires.sound.nodes c.args.n c.args.input)) refl

pub returns-in_err-effects : goal.returns-in_err-effects
returns-in_err-effects g c =
    let v = c.args.self.now in
    let facts = rebootable_facts g.H.Handlers g.H.Rebootable in
    let h = reboot_promises_of facts v.handlers in
    let d = g.D.SavesStates.disks in
    answers-memory h d (act.In c.args.n c.args.input) v c.input_event.new.self c.from_residual-in_err-effects.result c.from_residual-in_err-effects.ensures.1
    (λ w sh. subst (λ r. Tells r (act_refusal h.handlers.meaning w (act.In c.args.n c.args.input))) (sym c.in_ok-node.ensures) (take-tells h.handlers.meaning v w sh c.requires.sound.nodes c.args.n c.args.input))
    (c.input_event.ensures.handlers)

pub returns-in_err-begin : goal.returns-in_err-begin
returns-in_err-begin g c =
    let v = c.args.self.now in
    let facts = rebootable_facts g.H.Handlers g.H.Rebootable in
    let h = reboot_promises_of facts v.handlers in
    let d = g.D.SavesStates.disks in
    answers-memory h d (act.In c.args.n c.args.input) v c.begin.new.self c.from_residual-in_err-begin.result c.from_residual-in_err-begin.ensures.1
    (λ w sh. subst (λ r. Tells r (act_refusal h.handlers.meaning w (act.In c.args.n c.args.input))) (sym c.in_ok-node.ensures) (take-tells h.handlers.meaning v w sh c.requires.sound.nodes c.args.n c.args.input))
    (c.begin.ensures.handlers ∙ c.input_event.ensures.handlers)

pub returns : goal.returns
returns g c =
    let v = c.args.self.now in
    let facts = rebootable_facts g.H.Handlers g.H.Rebootable in
    let h = reboot_promises_of facts v.handlers in
    let d = g.D.SavesStates.disks in
    let at = (take-at h.handlers.meaning v c.args.n c.in_ok-node.node c.in_ok-node.ensures).0 in
    let hp = c.in_ok-effects.ensures.happens in
    let handlers = ap (λ x. x.handlers) hp.after_is in
    let bg = subst (λ x. Begins d (g.H.Rebootable.recovery x).keep c.in_ok-node.node (step.In c.args.n c.args.input) c.in_ok-effects.effects c.input_event.new.self c.begin.new.self) handlers c.in_ok-begin.ensures.begins in
    let last = c.begin.new.self in
    let last-handlers = ap (λ x. x.handlers) bg.after_is ∙ (begins-handlers c.input_event.new.self c.in_ok-node.node (step.In c.args.n c.args.input) c.in_ok-effects.effects.sends c.in_ok-effects.effects.outputs (d.acts bg.node.disk (h.recovery.keep bg.node.state)) ∙ handlers) in
    answers-taken h d (act.In c.args.n c.args.input) v _ _
    (λ w sh. subst (λ r. Tells r (act_refusal h.handlers.meaning w (act.In c.args.n c.args.input))) (sym c.in_ok-node.ensures) (take-tells h.handlers.meaning v w sh c.requires.sound.nodes c.args.n c.args.input))
    (begin-takes h d v c.input_event.new.self last _ c.args.n c.in_ok-node.node (Input c.args.input) (act.In c.args.n c.args.input) (λ j s. h.handlers.meaning.input j s c.args.input) c.in_ok-effects.effects _ (record {
      was = c.requires.sound;
      few = c.requires.steps;
      idle = at;
      modest = λ x ok. modest_most g.met.H.Handlers.few_sends (g.met.H.Handlers.modest_input v.handlers c.args.n x c.args.input at.below (take-at h.handlers.meaning v c.args.n c.in_ok-node.node c.in_ok-node.ensures).1 ok);
      happens = hp;
      begins = bg;
      event_is = refl;
      next_is = λ w. refl;
      after_is = ap one_taken c.self.view_is;
    }))
    (ap (λ x. x.handlers) c.self.view_is ∙ last-handlers)

pub begin-requires-clause-node : goal.begin-requires-clause-node
begin-requires-clause-node g c =
    let v = c.args.self.now in
    let facts = rebootable_facts g.H.Handlers g.H.Rebootable in
    let h = reboot_promises_of facts v.handlers in
    let at = (take-at h.handlers.meaning v c.args.n c.in_ok-node.node c.in_ok-node.ensures).0 in
    let below : c.in_ok-node.node < h.handlers.meaning.nodes = subst (λ j. j < h.handlers.meaning.nodes) (sym at.same) at.below in
    let takes : h.handlers.meaning.takes_input c.in_ok-node.node ≡ true = subst (λ j. h.handlers.meaning.takes_input j ≡ true) (sym at.same) (take-at h.handlers.meaning v c.args.n c.in_ok-node.node c.in_ok-node.ensures).1 in
    mid-below h.handlers v c.input_event.new.self (λ s. (g.H.Handlers.meaning v.handlers).input c.in_ok-node.node s c.args.input) c.in_ok-node.node c.in_ok-effects.effects c.in_ok-effects.ensures.happens c.requires.sound c.requires.steps below

pub begin-requires-clause-sound : goal.begin-requires-clause-sound
begin-requires-clause-sound g c =
    let v = c.args.self.now in
    let facts = rebootable_facts g.H.Handlers g.H.Rebootable in
    let h = reboot_promises_of facts v.handlers in
    let at = (take-at h.handlers.meaning v c.args.n c.in_ok-node.node c.in_ok-node.ensures).0 in
    let below : c.in_ok-node.node < h.handlers.meaning.nodes = subst (λ j. j < h.handlers.meaning.nodes) (sym at.same) at.below in
    let takes : h.handlers.meaning.takes_input c.in_ok-node.node ≡ true = subst (λ j. h.handlers.meaning.takes_input j ≡ true) (sym at.same) (take-at h.handlers.meaning v c.args.n c.in_ok-node.node c.in_ok-node.ensures).1 in
    let handlers = mid-handlers h.handlers v c.input_event.new.self (λ s. (g.H.Handlers.meaning v.handlers).input c.in_ok-node.node s c.args.input) c.in_ok-node.node c.in_ok-effects.effects c.in_ok-effects.ensures.happens c.requires.sound c.requires.steps in
    rw handlers (mid-stands h.handlers v c.input_event.new.self (λ s. (g.H.Handlers.meaning v.handlers).input c.in_ok-node.node s c.args.input) c.in_ok-node.node c.in_ok-effects.effects c.in_ok-effects.ensures.happens c.requires.sound c.requires.steps)

pub begin-requires-clause-fits : goal.begin-requires-clause-fits
begin-requires-clause-fits g c =
    let v = c.args.self.now in
    let facts = rebootable_facts g.H.Handlers g.H.Rebootable in
    let h = reboot_promises_of facts v.handlers in
    let at = (take-at h.handlers.meaning v c.args.n c.in_ok-node.node c.in_ok-node.ensures).0 in
    let below : c.in_ok-node.node < h.handlers.meaning.nodes = subst (λ j. j < h.handlers.meaning.nodes) (sym at.same) at.below in
    let takes : h.handlers.meaning.takes_input c.in_ok-node.node ≡ true = subst (λ j. h.handlers.meaning.takes_input j ≡ true) (sym at.same) (take-at h.handlers.meaning v c.args.n c.in_ok-node.node c.in_ok-node.ensures).1 in
    mid-fits h.handlers v c.input_event.new.self (λ s. (g.H.Handlers.meaning v.handlers).input c.in_ok-node.node s c.args.input) c.in_ok-node.node c.in_ok-effects.effects c.in_ok-effects.ensures.happens c.requires.sound c.requires.steps (λ s ok. modest_most g.met.H.Handlers.few_sends (g.met.H.Handlers.modest_input v.handlers c.in_ok-node.node s c.args.input below takes ok))

pub overflow_add-self : goal.overflow_add-self
overflow_add-self g c =
    let v = c.args.self.now in
    let facts = rebootable_facts g.H.Handlers g.H.Rebootable in
    let h = reboot_promises_of facts v.handlers in
    let at = (take-at h.handlers.meaning v c.args.n c.in_ok-node.node c.in_ok-node.ensures).0 in
    let below : c.in_ok-node.node < h.handlers.meaning.nodes = subst (λ j. j < h.handlers.meaning.nodes) (sym at.same) at.below in
    let takes : h.handlers.meaning.takes_input c.in_ok-node.node ≡ true = subst (λ j. h.handlers.meaning.takes_input j ≡ true) (sym at.same) (take-at h.handlers.meaning v c.args.n c.in_ok-node.node c.in_ok-node.ensures).1 in
    let mid = mid-taken h.handlers v c.input_event.new.self (λ s. (g.H.Handlers.meaning v.handlers).input c.in_ok-node.node s c.args.input) c.in_ok-node.node c.in_ok-effects.effects c.in_ok-effects.ensures.happens c.requires.sound c.requires.steps in
    let b = c.in_ok-begin.ensures.begins in
    let last = ap (λ x. x.taken) b.after_is in
    let same = begins-taken c.input_event.new.self c.in_ok-node.node (step.In c.args.n c.args.input) c.in_ok-effects.effects.sends c.in_ok-effects.effects.outputs (g.D.SavesStates.disks.acts b.node.disk ((g.H.Rebootable.recovery c.input_event.new.self.handlers).keep b.node.state)) in
    let seen = ap (λ x. x.taken) c.self.view_is in
    omega (arith, mid, last, same, seen, c.requires.steps)
