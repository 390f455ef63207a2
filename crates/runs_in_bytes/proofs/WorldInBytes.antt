-- A world in bytes, before its first step and after one more.
use Rattle.std.specs.Prelude.{◌≡◌, refl, ℕ, ◌+◌, ◌<◌, ◌≤◌, List, [], ◌∷◌, ◌++◌, length, Result, Ok, Err, OnOk}
use Rattle.std.proofs.Common.{ap, arith, sym, subst, ◌∙◌}
use Rattle.handler_trait.specs.Facts.{HandlersFacts}
use Rattle.handler_trait.specs.Handling.{Meaning}
use Rattle.net_semantics.specs.Runs.{IsAllowed, no_recovery, run}
use Rattle.net_semantics.specs.Shown.{IsSound, Shows, WorldView}
use Rattle.net_semantics.specs.Steps.{IsAnswer, items_of, next, refusal_of}
use Rattle.net_semantics.specs.Worlds.{World, first_world}
use Rattle.net_semantics.specs.declared.fault.StepFault.{StepFault}
use Rattle.vst_base.specs.declared.net.Net.{Net}
use Rattle.vst_base.specs.declared.node.TheConstants.{MAX_NODES}
use Rattle.vst_base.specs.declared.stack.StackId.{StackId}
use Rattle.vst_base.specs.declared.step.Step.{Step}
use Rattle.vst_base.specs.declared.step.TheConstants.{MAX_STEPS}
use Rattle.wire_codec.specs.Datagrams.{longest_message}
use Rattle.wire_codec.specs.Headings.{HasByte}
use Rattle.wire_fields.specs.Fields.{name}
use Rattle.wire_fields.specs.Formats.{Format}
use Rattle.wired.specs.Same.{RunsAlike}
use Rattle.wired.specs.StackRuns.{IsInputStep, MayCome, RunsAsBytes}
use Rattle.wired.specs.WiredRuns.{IsFormatOf, world_in_bytes}
use Rattle.wired.specs.Wiring.{Named, no_name, wired}
use Rattle.xform_stack.specs.Running.{HasTaken, Progress}
use Rattle.xform_stack.specs.Systems.{system_of}
use Rattle.runs_in_bytes.specs.Running.{AreOwnBytes, HasFollowedInBytes, IsSoundInBytes, RanInBytes}
use Rattle.runs_in_bytes.proofs.Moving.{allowed_more, items_alike, next_alike, ran_more, ran_none, refused_alike, taken_more}

-- the name of sixteen bytes 0 is one
pub is_name : (bs : List ℕ) → bs ≡ no_name → name.Fits bs
is_name bs named = subst (λ (x : List ℕ). name.Fits x) (sym named) (refl, refl)

module _ {H S I O M : Type 0} (f : Format M) (IsInput : I → Type 0) (longest : ℕ) (meaning : H → Meaning S I O M) where
  abbrev pub Law : Type 0
  Law = (h : H) (stack : StackId) → HasByte stack → IsFormatOf stack f → (meaning h).nodes ≤ MAX_NODES → longest ≤ longest_message → RunsAsBytes f stack IsInput (meaning h)

  -- of handlers that were wired so
  pub owned : (h : H) (stack : StackId) (w : Named H) {bs : List ℕ} → w ≡ record { inner = h; stack = stack; name = bs } → bs ≡ no_name → (meaning h).nodes ≤ MAX_NODES → HasByte stack
      → IsFormatOf stack f → longest ≤ longest_message → AreOwnBytes f longest meaning w
  owned h stack w {bs} made is few has of short = subst (λ (x : Named H). AreOwnBytes f longest meaning x) (sym made) (record { few = few; stack = has; format = of; short = short; named = is })

  abbrev pub Followed : WorldView (Named H) S I O (List ℕ) → List (Step I) → Type 0
  Followed v ss = HasFollowedInBytes f IsInput (meaning v.handlers.inner) v.net v.handlers v ss

  alike : Law → (w : Named H) (net : Net) → AreOwnBytes f longest meaning w → (ss : List (Step I)) → MayCome IsInput ss
      → RunsAlike net (wired f w.stack w.name (meaning w.inner)) (no_recovery {S = S}) (meaning w.inner) (no_recovery {S = S}) (world_in_bytes f w.stack w.name) ss
  alike law w net own ss may = law w.inner w.stack own.stack own.format own.few own.short w.name net ss (is_name w.name own.named) may

  pub followed_none : Law → (v : WorldView (Named H) S I O (List ℕ)) → AreOwnBytes f longest meaning v.handlers → (w : Named H) → v.handlers ≡ w
      → Shows (meaning v.handlers.inner).nodes v (first_world {K = S} (wired f w.stack w.name (meaning w.inner))) → Followed v []
  followed_none law v own w same shows =
      let h = v.handlers in
      let m = meaning h.inner in
      record {
        ran = ran_none IsInput v.net (wired f h.stack h.name m) (no_recovery {S = S}) m (no_recovery {S = S}) (world_in_bytes f h.stack h.name) (alike law h v.net own);
        shows = subst (λ (x : Named H). Shows m.nodes v (first_world {K = S} (wired f x.stack x.name (meaning x.inner)))) (sym same) shows;
      }

  -- and of the same handlers on the same network
  followed_same : (w w' : Named H) (net net' : Net) (v : WorldView (Named H) S I O (List ℕ)) (ss : List (Step I)) → w' ≡ w → net' ≡ net
      → HasFollowedInBytes f IsInput (meaning w.inner) net w v ss → HasFollowedInBytes f IsInput (meaning w'.inner) net' w' v ss
  followed_same w w' net net' v ss same on has =
      subst (λ (x : Net). HasFollowedInBytes f IsInput (meaning w'.inner) x w' v ss) (sym on)
      (subst (λ (x : Named H). HasFollowedInBytes f IsInput (meaning x.inner) net x v ss) (sym same) has)

  module _ (law : Law) (v : WorldView (Named H) S I O (List ℕ)) (own : AreOwnBytes f longest meaning v.handlers) (ss : List (Step I)) (s : Step I) (has : Followed v ss) where
    abbrev m : Meaning S I O M
    m = meaning v.handlers.inner

    abbrev m2 : Meaning S I O (List ℕ)
    m2 = wired f v.handlers.stack v.handlers.name m

    pub refused_in_bytes : refusal_of v.net m2 (world_in_bytes f v.handlers.stack v.handlers.name (run m (no_recovery {S = S}) ss)) s ≡ refusal_of v.net m (run m (no_recovery {S = S}) ss) s
    refused_in_bytes = refused_alike IsInput v.net m2 (no_recovery {S = S}) m (no_recovery {S = S}) (world_in_bytes f v.handlers.stack v.handlers.name) ss s has.ran

    module _ (input : IsInputStep IsInput s) (few : length ss < MAX_STEPS) (allowed : IsAllowed v.net m (no_recovery {S = S}) (ss ++ s ∷ [])) where
      more : RanInBytes IsInput v.net m2 (no_recovery {S = S}) m (no_recovery {S = S}) (world_in_bytes f v.handlers.stack v.handlers.name) (ss ++ s ∷ [])
      more = ran_more IsInput v.net m2 (no_recovery {S = S}) m (no_recovery {S = S}) (world_in_bytes f v.handlers.stack v.handlers.name) ss s (alike law v.handlers v.net own) has.ran input few allowed

      pub items_in_bytes : items_of m2 (world_in_bytes f v.handlers.stack v.handlers.name (run m (no_recovery {S = S}) ss)) s ≡ items_of m (run m (no_recovery {S = S}) ss) s
      items_in_bytes = items_alike IsInput v.net m2 (no_recovery {S = S}) m (no_recovery {S = S}) (world_in_bytes f v.handlers.stack v.handlers.name) ss s has.ran more

      pub followed_more : (w : WorldView (Named H) S I O (List ℕ)) → w.handlers ≡ v.handlers → w.net ≡ v.net
          → Shows (meaning w.handlers.inner).nodes w (next m2 (no_recovery {S = S}) (world_in_bytes f v.handlers.stack v.handlers.name (run m (no_recovery {S = S}) ss)) s) → Followed w (ss ++ s ∷ [])
      followed_more w same on shows =
          let bytes = world_in_bytes f v.handlers.stack v.handlers.name in
          let there = subst (λ (x : Named H). Shows (meaning x.inner).nodes w (next m2 (no_recovery {S = S}) (bytes (run m (no_recovery {S = S}) ss)) s)) same shows in
          let shown = subst (λ x. Shows m.nodes w x) (next_alike IsInput v.net m2 (no_recovery {S = S}) m (no_recovery {S = S}) bytes ss s has.ran more) there in
          followed_same v.handlers w.handlers v.net w.net w (ss ++ s ∷ []) same on (record { ran = more; shows = shown })

  abbrev told : WorldView (Named H) S I O (List ℕ) → Progress I O
  told v = record { trace = v.trace; taken = v.taken }

  -- a step that the world took, whose input has bytes
  module _ (law : Law) (v v' : WorldView (Named H) S I O (List ℕ)) (own : AreOwnBytes f longest meaning v.handlers) (s : Step I) (input : IsInputStep IsInput s) (steps : v.taken < MAX_STEPS)
      (same : v'.handlers ≡ v.handlers) (on : v'.net ≡ v.net) where
    abbrev inner : Meaning S I O M
    inner = meaning v.handlers.inner

    abbrev outer : Meaning S I O (List ℕ)
    outer = wired f v.handlers.stack v.handlers.name inner

    abbrev bytes : List (Step I) → World S S (List ℕ)
    bytes ss = world_in_bytes f v.handlers.stack v.handlers.name (run inner (no_recovery {S = S}) ss)

    abbrev Has : List (Step I) → WorldView (Named H) S I O (List ℕ) → Type 0
    Has = HasTaken (system_of v.net inner) Followed told

    abbrev Refused : {A : Type 0} → Result A StepFault → Type 0
    Refused r = (w : World S S (List ℕ)) → Shows inner.nodes v w → IsAnswer r (refusal_of v.net outer w s)

    pub refused_next : {A : Type 0} (r : Result A StepFault) → Refused r → (ss : List (Step I)) → Has ss v → IsAnswer r (refusal_of v.net inner (run inner (no_recovery {S = S}) ss) s)
    refused_next r refused ss had = subst (λ o. IsAnswer r o) (refused_in_bytes law v own ss s had.followed) (refused (bytes ss) had.followed.shows)

    few_so_far : (ss : List (Step I)) → Has ss v → length ss < MAX_STEPS
    few_so_far ss had = omega (arith, steps, had.counted)

    allowed_next : {A : Type 0} (x : A) → Refused (Ok x) → (ss : List (Step I)) → Has ss v → IsAllowed v.net inner (no_recovery {S = S}) (ss ++ s ∷ [])
    allowed_next x refused ss had = allowed_more v.net inner (no_recovery {S = S}) ss s had.allowed (refused_next (Ok x) refused ss had)

    pub next_taken : {A : Type 0} (r : Result A StepFault) → Refused r
        → OnOk r ((w : World S S (List ℕ)) → Shows inner.nodes v w → Shows (meaning v'.handlers.inner).nodes v' (next outer (no_recovery {S = S}) w s))
        → OnOk r (v'.taken ≡ v.taken + 1) → OnOk r ((ss : List (Step I)) → Has ss v → Has (ss ++ s ∷ []) v')
    next_taken (Ok x) refused nexts taken = λ ss had.
        let allowed = allowed_next x refused ss had in
        taken_more (system_of v.net inner) Followed told ss s v v' had allowed taken
        (followed_more law v own ss s had.followed input (few_so_far ss had) allowed v' same on (nexts (bytes ss) had.followed.shows))
    next_taken (Err e) refused nexts taken = tt

    pub trace_taken : {A : Type 0} (r : Result A StepFault) → Refused r → OnOk r ((w : World S S (List ℕ)) → Shows inner.nodes v w → v'.trace ≡ v.trace ++ items_of outer w s)
        → OnOk r ((ss : List (Step I)) → Has ss v → v'.trace ≡ v.trace ++ items_of inner (run inner (no_recovery {S = S}) ss) s)
    trace_taken (Ok x) refused seen = λ ss had.
        seen (bytes ss) had.followed.shows
        ∙ ap (λ xs. v.trace ++ xs) (items_in_bytes law v own ss s had.followed input (few_so_far ss had) (allowed_next x refused ss had))
    trace_taken (Err e) refused seen = tt

module _ {H S I O M : Type 0} (f : Format M) (longest : ℕ) (h : HandlersFacts H S I O M) where
  -- a step keeps it sound
  pub sound_more : {A : Type 0} (r : Result A StepFault) (v v' : WorldView (Named H) S I O (List ℕ)) (s : Step I) → IsSoundInBytes f longest h v → v'.handlers ≡ v.handlers
      → OnOk r ((w : World S S (List ℕ)) → Shows (h.meaning v.handlers.inner).nodes v w
      → Shows (h.meaning v'.handlers.inner).nodes v' (next (wired f v.handlers.stack v.handlers.name (h.meaning v.handlers.inner)) (no_recovery {S = S}) w s))
      → OnOk r (IsSound (record {
        meaning = wired f v'.handlers.stack v'.handlers.name (h.meaning v'.handlers.inner);
        sound = h.sound v'.handlers.inner;
        spent = h.spent v'.handlers.inner;
      }) v') → OnOk r (IsSoundInBytes f longest h v')
  sound_more (Ok x) v v' s had same nexts sound = record {
    own = subst (λ (y : Named H). AreOwnBytes f longest h.meaning y) (sym same) had.own;
    world = sound;
    shown = next (wired f v.handlers.stack v.handlers.name (h.meaning v.handlers.inner)) (no_recovery {S = S}) had.shown s;
    shows = nexts had.shown had.shows;
  }
  sound_more (Err e) v v' s had same nexts sound = tt

  -- a state that each world tells that it stands for
  pub state_sound : (v : WorldView (Named H) S I O (List ℕ)) (n : ℕ) (s : S) → IsSoundInBytes f longest h v → n < (h.meaning v.handlers.inner).nodes
      → ((w : World S S (List ℕ)) → Shows (h.meaning v.handlers.inner).nodes v w → s ≡ w.state n) → h.sound v.handlers.inner n s
  state_sound v n s had below tells =
      let known = rw (had.shows.states n below) at (had.world.states n) in
      rw (tells had.shown had.shows) known.keeps
