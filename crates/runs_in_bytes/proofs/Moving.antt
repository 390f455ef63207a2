-- One more step in bytes: it is refused alike, clients see the same of it, and it makes the world that is to be.
use Rattle.std.specs.Prelude.{◌≡◌, ℕ, zero, suc, ◌+◌, ◌<◌, List, [], ◌∷◌, ◌++◌, length, Option, None, option_map, refl}
use Rattle.std.proofs.Common.{ap, ◌∙◌, sym, arith, length-append}
use Rattle.std.proofs.lemmas.List.{append-nil, append_cancel_left}
use Rattle.handler_trait.specs.Handling.{Meaning, Recovery}
use Rattle.net_semantics.specs.RunLaws.{first_refused_from-append, later, run_from-append, trace_from-append}
use Rattle.net_semantics.specs.Runs.{IsAllowed, place_and_why, run, trace}
use Rattle.net_semantics.specs.Steps.{items_of, next, refusal_of}
use Rattle.net_semantics.specs.Worlds.{World, first_world}
use Rattle.vst_base.specs.declared.net.Net.{Net}
use Rattle.vst_base.specs.declared.step.Step.{Step}
use Rattle.vst_base.specs.declared.step.StepRefusal.{StepRefusal}
use Rattle.vst_base.specs.declared.step.TheConstants.{MAX_STEPS}
use Rattle.wired.specs.Same.{RunsAlike}
use Rattle.wired.specs.StackRuns.{AreInputSteps, IsInputStep, MayCome}
use Rattle.xform_stack.specs.Running.{HasTaken, Progress}
use Rattle.xform_stack.specs.Systems.{System}
use Rattle.runs_in_bytes.specs.Running.{RanInBytes}

inputs_more : {I : Type 0} (IsInput : I → Type 0) (ss : List (Step I)) (s : Step I) → AreInputSteps IsInput ss → IsInputStep IsInput s → AreInputSteps IsInput (ss ++ s ∷ [])
inputs_more IsInput [] s are is = (is, tt)
inputs_more IsInput (t ∷ ss) s are is = (are.0, inputs_more IsInput ss s are.1 is)

-- what clients see of one more step
seen_last : {S K I O M : Type 0} (m : Meaning S I O M) (r : Recovery S K) (ss : List (Step I)) (s : Step I)
    → trace m r (ss ++ s ∷ []) ≡ trace m r ss ++ items_of m (run m r ss) s
seen_last m r ss s =
    trace_from-append m r (first_world m) ss (s ∷ []) ∙ ap (λ xs. trace m r ss ++ xs) (append-nil (items_of m (run m r ss) s))

module _ {S K M S2 K2 M2 I O : Type 0} (IsInput : I → Type 0) (net : Net) (m2 : Meaning S2 I O M2) (r2 : Recovery S2 K2) (m : Meaning S I O M) (r : Recovery S K)
    (stands_for : World S K M → World S2 K2 M2) (ss : List (Step I)) (s : Step I) where
  abbrev Ran : List (Step I) → Type 0
  Ran = RanInBytes IsInput net m2 r2 m r stands_for

  pub refused_alike : Ran ss → refusal_of net m2 (stands_for (run m r ss)) s ≡ refusal_of net m (run m r ss) s
  refused_alike ran = ap (λ w. refusal_of net m2 w s) (sym ran.same.world) ∙ ran.same.next_refused s

  pub next_alike : Ran ss → Ran (ss ++ s ∷ []) → next m2 r2 (stands_for (run m r ss)) s ≡ stands_for (run m r (ss ++ s ∷ []))
  next_alike ran more =
      ap (λ w. next m2 r2 w s) (sym ran.same.world) ∙ (sym (run_from-append m2 r2 (first_world m2) ss (s ∷ [])) ∙ more.same.world)

  pub items_alike : Ran ss → Ran (ss ++ s ∷ []) → items_of m2 (stands_for (run m r ss)) s ≡ items_of m (run m r ss) s
  items_alike ran more =
      ap (λ w. items_of m2 w s) (sym ran.same.world)
      ∙ append_cancel_left (trace m r ss) (items_of m2 (run m2 r2 ss) s) (items_of m (run m r ss) s)
      (ap (λ xs. xs ++ items_of m2 (run m2 r2 ss) s) (sym ran.same.trace) ∙ (sym (seen_last m2 r2 ss s) ∙ (more.same.trace ∙ seen_last m r ss s)))

  -- the next step of a schedule that may come
  pub ran_more : ((ts : List (Step I)) → MayCome IsInput ts → RunsAlike net m2 r2 m r stands_for ts) → Ran ss → IsInputStep IsInput s → length ss < MAX_STEPS
      → IsAllowed net m r (ss ++ s ∷ []) → Ran (ss ++ s ∷ [])
  ran_more alike ran input few allowed =
      let inputs = inputs_more IsInput ss s ran.inputs input in
      let may : MayCome IsInput (ss ++ s ∷ []) = record { few = omega (arith, few, length-append ss (s ∷ [])); inputs = inputs } in
      record { inputs = inputs; same = (alike (ss ++ s ∷ []) may).allowed allowed }

-- no step yet
pub ran_none : {S K M S2 K2 M2 I O : Type 0} (IsInput : I → Type 0) (net : Net) (m2 : Meaning S2 I O M2) (r2 : Recovery S2 K2) (m : Meaning S I O M) (r : Recovery S K)
    (stands_for : World S K M → World S2 K2 M2) → ((ts : List (Step I)) → MayCome IsInput ts → RunsAlike net m2 r2 m r stands_for ts)
    → RanInBytes IsInput net m2 r2 m r stands_for []
ran_none IsInput net m2 r2 m r stands_for alike = record { inputs = tt; same = (alike [] (record { few = omega arith; inputs = tt })).allowed refl }

later_none : (n : ℕ) → later n None ≡ None
later_none zero = refl
later_none (suc n) = ap (λ o. option_map (λ (p : ℕ × StepRefusal). (suc p.0, p.1)) o) (later_none n)

none_first : (f : Option StepRefusal) → f ≡ None → place_and_why f None ≡ None
none_first f e = rw e refl

-- a step that is not refused goes on a schedule that is allowed
pub allowed_more : {S K I O M : Type 0} (net : Net) (m : Meaning S I O M) (r : Recovery S K) (ss : List (Step I)) (s : Step I) → IsAllowed net m r ss
    → refusal_of net m (run m r ss) s ≡ None → IsAllowed net m r (ss ++ s ∷ [])
allowed_more net m r ss s allowed not_refused =
    first_refused_from-append m r net (first_world m) ss (s ∷ []) allowed
    ∙ (ap (later (length ss)) (none_first (refusal_of net m (run m r ss) s) not_refused) ∙ later_none (length ss))

-- and so a network has taken it
pub taken_more : {W S K I O M : Type 0} (sys : System S K I O M) (follows : W → List (Step I) → Type 0) (progress : W → Progress I O) (ss : List (Step I)) (s : Step I) (w v : W)
    → HasTaken sys follows progress ss w → IsAllowed sys.net sys.meaning sys.recovery (ss ++ s ∷ []) → (progress v).taken ≡ (progress w).taken + 1 → follows v (ss ++ s ∷ [])
    → HasTaken sys follows progress (ss ++ s ∷ []) v
taken_more sys follows progress ss s w v had allowed counted followed =
    record { followed = followed; allowed = allowed; counted = omega (arith, counted, had.counted, length-append ss (s ∷ [])) }
