-- Inputs, timers and deliveries, by what the code does of them.
use Rattle.std.proofs.Common.{◌≡◌, ℕ, ◌+◌, ◌<◌, ◌^◌, List, [], ◌∷◌, IfSome, length, slice_get, refl, ap, arith, sym, subst, ◌∙◌}
use Rattle.lists.specs.Options.{some_holds}
use Rattle.handler_trait.specs.Facts.{Promises, RebootPromises}
use Rattle.handler_trait.specs.Handling.{Effect, Gathered, IsModest}
use Rattle.handler_trait.specs.declared.handlers.TheConstants.{MAX_SENDS}
use Rattle.vst_base.specs.declared.step.Step.{Step}
use Rattle.vst_base.specs.declared.step.TheConstants.{MAX_STEPS}
use Rattle.act_network.specs.declared.step.ActStep.{ActStep}
use Rattle.act_network.specs.ActSteps.{act_next}
use Rattle.act_network.specs.ActSteps as spec
use Rattle.act_network.specs.ActWorlds.{ActWorld, Cause, step_of}
use Rattle.act_network.specs.Disks.{Disks}
use Rattle.act_world.specs.ActViews.{ActView, IsSoundAct, ShowsAct}
use Rattle.net_semantics.proofs.Places.{change_at-there, length-change_at}
use Rattle.act_world.specs.Nodes.{with_state}
use Rattle.act_world.specs.Moves.{Begins, Happens, TakesAct, one_taken, turn_begins}
use Rattle.act_world.proofs.Answering.{IsIdleAt}
use Rattle.act_world.proofs.Stepping.{begun-leads, begun-sound}

pub begins-taken : {H S D I A O M X : Type 0} (v : ActView H S D I A O M X) (n : ℕ) (ev : Step I) (ss : List (ℕ × M)) (os : List O) (acts : List A) →
    (turn_begins v n ev ss os acts).taken ≡ v.taken
begins-taken v n ev ss os [] = refl
begins-taken v n ev ss os (a ∷ more) = refl

pub begins-handlers : {H S D I A O M X : Type 0} (v : ActView H S D I A O M X) (n : ℕ) (ev : Step I) (ss : List (ℕ × M)) (os : List O) (acts : List A) →
    (turn_begins v n ev ss os acts).handlers ≡ v.handlers
begins-handlers v n ev ss os [] = refl
begins-handlers v n ev ss os (a ∷ more) = refl

-- after an event, and before its turn begins
module _ {H S D I A O M X : Type 0} (p : Promises S I O M) (v mid : ActView H S D I A O M X) (event : S → Effect S O M) (n : ℕ) (gathered : Gathered O M) (hp : Happens event (p.sound n) n v mid gathered)
    (was : IsSoundAct p v) (few : v.taken < MAX_STEPS) where
  pub mid-below : n < p.meaning.nodes → n < length mid.nodes
  mid-below below =
      let a = ap (λ x. length x.nodes) hp.after_is in let b = length-change_at (with_state (event hp.node.state).state) v.nodes n in let c = was.nodes in
      omega (arith, a, b, c, below)

  pub mid-stands : IfSome (slice_get mid.nodes n) (λ at. p.sound n at.state)
  mid-stands =
      some_holds (λ y. p.sound n y.state) (slice_get mid.nodes n) (with_state (event hp.node.state).state hp.node)
      (ap (λ x. slice_get x.nodes n) hp.after_is ∙ change_at-there (with_state (event hp.node.state).state) v.nodes n hp.node hp.there) hp.keeps

  pub mid-fits : ((s : S) → p.sound n s → IsModest p.meaning.nodes MAX_SENDS (p.sound n) p.spent s (event s)) → mid.notes.sent + length gathered.sends < 2 ^ 32
  mid-fits modest =
      let a = ap (λ x. x.notes.sent) hp.after_is in let b = ap length hp.sends in let c = (modest hp.node.state (was.each n hp.node hp.there).state.keeps).few in
      let e = was.few_sent in
      omega (arith, a, b, c, e, few)

  pub mid-taken : mid.taken ≡ v.taken
  mid-taken = ap (λ x. x.taken) hp.after_is

  pub mid-handlers : mid.handlers ≡ v.handlers
  mid-handlers = ap (λ x. x.handlers) hp.after_is

module _ {H S K D I A O M X : Type 0} (h : RebootPromises S K I O M) (d : Disks K D A X) (v mid last after : ActView H S D I A O M X) (n node : ℕ) (c : Cause I) (s : ActStep I X)
    (event : ℕ → S → Effect S O M) (gathered : Gathered O M) (ev : Step I) where
  pub record Begun : Type 0 where
    pub was : IsSoundAct h.handlers v
    pub few : v.taken < MAX_STEPS
    pub idle : IsIdleAt h.handlers.meaning v n node
    pub modest : (x : S) → h.handlers.sound n x → IsModest h.handlers.meaning.nodes MAX_SENDS (h.handlers.sound n) h.handlers.spent x (event n x)
    pub happens : Happens (event node) (h.handlers.sound node) node v mid gathered
    pub begins : Begins d h.recovery.keep node ev gathered mid last
    pub event_is : ev ≡ step_of n c
    pub next_is : (w : ActWorld S I O M D A X) → act_next h.handlers.meaning h.recovery d w s ≡ spec.begun h.handlers.meaning h.recovery d w n c (event n (w.state n))
    pub after_is : after ≡ one_taken last

  pub begin-takes : Begun → TakesAct h d s v after
  begin-takes b =
      let same = b.idle.same in
      let hp = subst (λ j. Happens (event j) (h.handlers.sound j) j v mid gathered) same b.happens in
      let at : Begins d h.recovery.keep n ev gathered mid last = subst (λ j. Begins d h.recovery.keep j ev gathered mid last) same b.begins in
      let bg = subst (λ x. Begins d h.recovery.keep n x gathered mid last) b.event_is at in
      let taken : last.taken ≡ v.taken =
      ap (λ x. x.taken) bg.after_is ∙ (begins-taken mid n (step_of n c) gathered.sends gathered.outputs (d.acts bg.node.disk (h.recovery.keep bg.node.state)) ∙ ap (λ x. x.taken) hp.after_is) in
      subst (TakesAct h d s v) (sym b.after_is) (record {
        leads = λ w sh. subst (ShowsAct (one_taken last)) (sym (b.next_is w))
            (begun-leads h d v mid last n c (event n) gathered b.was b.few b.idle.up b.idle.idle b.modest hp bg w sh);
        counts = ap (λ t. t + 1) taken;
        keeps = begun-sound h d v mid last n c (event n) gathered b.was b.few b.idle.up b.idle.idle b.modest hp bg;
      })
