-- A world on bytes alone, before its first step and after one more.
use Rattle.std.specs.Prelude.{◌≡◌, ℕ, ◌+◌, ◌<◌, List, [], ◌∷◌, ◌++◌, length, Result, Ok, Err, OnOk}
use Rattle.std.proofs.Common.{ap, arith, sym, subst, ◌∙◌}
use Rattle.handler_trait.specs.Facts.{RebootableFacts}
use Rattle.handler_trait.specs.Handling.{Meaning, Recovery}
use Rattle.net_semantics.specs.Runs.{IsAllowed, run}
use Rattle.net_semantics.specs.ShownFail.{FailView, IsSoundFailBy, ShowsFail, ShowsFailBy}
use Rattle.net_semantics.specs.Steps.{IsAnswer, items_of, next, refusal_of}
use Rattle.net_semantics.specs.Worlds.{World, first_world}
use Rattle.net_semantics.specs.declared.fault.StepFault.{StepFault}
use Rattle.vst_base.specs.declared.net.Net.TheVariants as net
use Rattle.vst_base.specs.declared.step.Step.{Step}
use Rattle.vst_base.specs.declared.step.TheConstants.{MAX_STEPS}
use Rattle.wired.specs.Same.{RunsAlike}
use Rattle.wired.specs.StackRuns.{IsInputStep, MayCome}
use Rattle.xform_stack.specs.Running.{HasTaken, Progress}
use Rattle.xform_stack.specs.Systems.{System}
use Rattle.runs_in_bytes.specs.Running.{HasFollowedOnBytes, IsSoundOnBytes, RanInBytes}
use Rattle.runs_in_bytes.proofs.Moving.{allowed_more, items_alike, next_alike, ran_more, ran_none, refused_alike, taken_more}

-- handlers, and those within
module _ {H S2 K2 M2 S K M I O : Type 0} (IsInput : I → Type 0) (IsOwn : H → Type 0) (m2 : H → Meaning S2 I O M2) (r2 : H → Recovery S2 K2) (m : H → Meaning S I O M) (r : H → Recovery S K)
    (bytes : H → World S K M → World S2 K2 M2) where
  abbrev pub Law : Type 0
  Law = (h : H) (ss : List (Step I)) → IsOwn h → MayCome IsInput ss → RunsAlike net.Fail (m2 h) (r2 h) (m h) (r h) (bytes h) ss

  abbrev FollowedBy : H → FailView H S2 K2 I O M2 → List (Step I) → Type 0
  FollowedBy h v ss = HasFollowedOnBytes IsInput (m2 h) (r2 h) (m h) (r h) (bytes h) v ss

  pub followed_none : Law → (v : FailView H S2 K2 I O M2) (h : H) → IsOwn h → v.handlers ≡ h → ShowsFail (m2 v.handlers).nodes v (first_world (m2 h)) → FollowedBy v.handlers v []
  followed_none law v h own same shows =
      let k = v.handlers in
      let ran = ran_none IsInput net.Fail (m2 k) (r2 k) (m k) (r k) (bytes k) (λ ss may. law k ss (subst (λ (x : H). IsOwn x) (sym same) own) may) in
      record {
        ran = ran;
        shows = subst (λ (w : World S2 K2 M2). ShowsFail (m2 k).nodes v w) ran.same.world (subst (λ (x : H). ShowsFail (m2 k).nodes v (first_world (m2 x))) (sym same) shows);
      }

  module _ (law : Law) (v : FailView H S2 K2 I O M2) (own : IsOwn v.handlers) (ss : List (Step I)) (s : Step I) (has : FollowedBy v.handlers v ss) where
    abbrev h : H
    h = v.handlers

    abbrev w : World S2 K2 M2
    w = bytes h (run (m h) (r h) ss)

    pub refused_on_bytes : refusal_of net.Fail (m2 h) w s ≡ refusal_of net.Fail (m h) (run (m h) (r h) ss) s
    refused_on_bytes = refused_alike IsInput net.Fail (m2 h) (r2 h) (m h) (r h) (bytes h) ss s has.ran

    module _ (input : IsInputStep IsInput s) (few : length ss < MAX_STEPS) (allowed : IsAllowed net.Fail (m h) (r h) (ss ++ s ∷ [])) where
      more : RanInBytes IsInput net.Fail (m2 h) (r2 h) (m h) (r h) (bytes h) (ss ++ s ∷ [])
      more = ran_more IsInput net.Fail (m2 h) (r2 h) (m h) (r h) (bytes h) ss s (λ ts may. law h ts own may) has.ran input few allowed

      pub items_on_bytes : items_of (m2 h) w s ≡ items_of (m h) (run (m h) (r h) ss) s
      items_on_bytes = items_alike IsInput net.Fail (m2 h) (r2 h) (m h) (r h) (bytes h) ss s has.ran more

      pub followed_more : (v' : FailView H S2 K2 I O M2) → v'.handlers ≡ h → ShowsFail (m2 v'.handlers).nodes v' (next (m2 h) (r2 h) w s) → FollowedBy v'.handlers v' (ss ++ s ∷ [])
      followed_more v' same shows =
          let there = subst (λ (x : H). ShowsFail (m2 x).nodes v' (next (m2 h) (r2 h) w s)) same shows in
          let shown = subst (λ x. ShowsFail (m2 h).nodes v' x) (next_alike IsInput net.Fail (m2 h) (r2 h) (m h) (r h) (bytes h) ss s has.ran more) there in
          subst (λ (x : H). FollowedBy x v' (ss ++ s ∷ [])) (sym same) (record { ran = more; shows = shown })

  abbrev told : FailView H S2 K2 I O M2 → Progress I O
  told v = record { trace = v.trace; taken = v.taken }

  abbrev Followed : FailView H S2 K2 I O M2 → List (Step I) → Type 0
  Followed v ss = FollowedBy v.handlers v ss

  abbrev pub system_within : H → System S K I O M
  system_within k = record { net = net.Fail; meaning = m k; recovery = r k }

  -- a step that the world took, whose input has bytes
  module _ (law : Law) (v v' : FailView H S2 K2 I O M2) (own : IsOwn v.handlers) (s : Step I) (input : IsInputStep IsInput s) (steps : v.taken < MAX_STEPS) (same : v'.handlers ≡ v.handlers) where
    abbrev k : H
    k = v.handlers

    abbrev there : List (Step I) → World S2 K2 M2
    there ss = bytes k (run (m k) (r k) ss)

    abbrev Has : List (Step I) → FailView H S2 K2 I O M2 → Type 0
    Has = HasTaken (system_within k) Followed told

    abbrev Refused : {A : Type 0} → Result A StepFault → Type 0
    Refused a = (w : World S2 K2 M2) → ShowsFail (m2 k).nodes v w → IsAnswer a (refusal_of net.Fail (m2 k) w s)

    pub refused_next : {A : Type 0} (a : Result A StepFault) → Refused a → (ss : List (Step I)) → Has ss v → IsAnswer a (refusal_of net.Fail (m k) (run (m k) (r k) ss) s)
    refused_next a refused ss had = subst (λ o. IsAnswer a o) (refused_on_bytes law v own ss s had.followed) (refused (there ss) had.followed.shows)

    few_so_far : (ss : List (Step I)) → Has ss v → length ss < MAX_STEPS
    few_so_far ss had = omega (arith, steps, had.counted)

    allowed_next : {A : Type 0} (x : A) → Refused (Ok x) → (ss : List (Step I)) → Has ss v → IsAllowed net.Fail (m k) (r k) (ss ++ s ∷ [])
    allowed_next x refused ss had = allowed_more net.Fail (m k) (r k) ss s had.allowed (refused_next (Ok x) refused ss had)

    pub next_taken : {A : Type 0} (a : Result A StepFault) → Refused a
        → OnOk a ((w : World S2 K2 M2) → ShowsFail (m2 k).nodes v w → ShowsFail (m2 v'.handlers).nodes v' (next (m2 k) (r2 k) w s))
        → OnOk a (v'.taken ≡ v.taken + 1) → OnOk a ((ss : List (Step I)) → Has ss v → Has (ss ++ s ∷ []) v')
    next_taken (Ok x) refused nexts taken = λ ss had.
        let allowed = allowed_next x refused ss had in
        taken_more (system_within k) Followed told ss s v v' had allowed taken
        (followed_more law v own ss s had.followed input (few_so_far ss had) allowed v' same (nexts (there ss) had.followed.shows))
    next_taken (Err e) refused nexts taken = tt

    pub trace_taken : {A : Type 0} (a : Result A StepFault) → Refused a → OnOk a ((w : World S2 K2 M2) → ShowsFail (m2 k).nodes v w → v'.trace ≡ v.trace ++ items_of (m2 k) w s)
        → OnOk a ((ss : List (Step I)) → Has ss v → v'.trace ≡ v.trace ++ items_of (m k) (run (m k) (r k) ss) s)
    trace_taken (Ok x) refused seen = λ ss had.
        seen (there ss) had.followed.shows
        ∙ ap (λ xs. v.trace ++ xs) (items_on_bytes law v own ss s had.followed input (few_so_far ss had) (allowed_next x refused ss had))
    trace_taken (Err e) refused seen = tt

module _ {H S K I O M : Type 0} (IsOwn : H → Type 0) (facts : RebootableFacts H S K I O M) where
  -- a step keeps it sound
  pub sound_more : {A : Type 0} (a : Result A StepFault) (v v' : FailView H S K I O M) (s : Step I) → IsSoundOnBytes IsOwn facts v → v'.handlers ≡ v.handlers
      → OnOk a ((w : World S K M) → ShowsFailBy facts v w → ShowsFailBy facts v' (next (facts.meaning v.handlers) (facts.recovery v.handlers) w s))
      → OnOk a (IsSoundFailBy facts v') → OnOk a (IsSoundOnBytes IsOwn facts v')
  sound_more (Ok x) v v' s had same nexts sound = record {
    own = subst (λ (h : H). IsOwn h) (sym same) had.own;
    world = sound;
    shown = next (facts.meaning v.handlers) (facts.recovery v.handlers) had.shown s;
    shows = nexts had.shown had.shows;
  }
  sound_more (Err e) v v' s had same nexts sound = tt

  -- a state that each world tells that it stands for
  pub state_sound : (v : FailView H S K I O M) (n : ℕ) (s : S) → IsSoundOnBytes IsOwn facts v → n < (facts.meaning v.handlers).nodes
      → ((w : World S K M) → ShowsFailBy facts v w → s ≡ w.state n) → facts.sound v.handlers n s
  state_sound v n s had below tells =
      let known = rw (had.shows.states n below) at (had.world.world.states n) in
      rw (tells had.shown had.shows) known.keeps
