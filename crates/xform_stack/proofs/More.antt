-- One more step that is not refused goes on a run.
use Rattle.std.specs.Prelude.{◌≡◌, ℕ, ◌+◌, List, [], ◌∷◌, ◌++◌, length, Option, Some, None, Result, Ok, Err, option_map, refl}
use Rattle.std.proofs.Common.{zero, suc, ◌<◌, take, drop, get_or, ap, ◌∙◌, sym, arith, length-append, append_assoc, take-append-drop, add-one}
use Rattle.std.proofs.Math.Seq.{drop-cons}
use Rattle.std.proofs.lemmas.List.{append-nil}
use Rattle.handler_trait.specs.Handling.{Meaning}
use Rattle.vst_base.specs.declared.step.Step.{Step}
use Rattle.vst_base.specs.declared.step.Item.{Item}
use Rattle.vst_base.specs.declared.step.StepRefusal.{StepRefusal}
use Rattle.net_semantics.specs.Worlds.{first_world}
use Rattle.net_semantics.specs.Steps.{IsAnswer, items_of, next, refusal_of}
use Rattle.net_semantics.specs.Runs.{first_refused, first_refused_from, place_and_why, trace}
use Rattle.net_semantics.specs.RunLaws.{first_refused_from-append, later, run_from-append, trace_from-append}
use Rattle.net_semantics.specs.declared.fault.StepFault.{StepFault}
use Rattle.net_semantics.specs.declared.fault.StepFault.TheVariants as fault
use Rattle.xform_stack.specs.declared.ran.RunFault.{RunFault}
use Rattle.xform_stack.specs.declared.ran.RunFault.TheVariants as run_fault
use Rattle.xform_stack.specs.Running.{HasTaken, IsRunAnswer, IsRunRefusal, Progress}
use Rattle.xform_stack.specs.Systems.{System, world_of}

later-none : (n : ℕ) → later n None ≡ None
later-none zero = refl
later-none (suc n) = ap (λ o. option_map (λ (p : ℕ × StepRefusal). (suc p.0, p.1)) o) (later-none n)

later-first : (n : ℕ) (why : StepRefusal) → later n (Some (0, why)) ≡ Some (n, why)
later-first zero why = refl
later-first (suc n) why = ap (λ o. option_map (λ (p : ℕ × StepRefusal). (suc p.0, p.1)) o) (later-first n why)

-- the first refusal of one step alone, so many steps later
later-one : (n : ℕ) (f : Option StepRefusal) → later n (place_and_why f None) ≡ option_map (λ why. (n, why)) f
later-one n None = later-none n
later-one n (Some why) = later-first n why

module _ {S K I O M : Type 0} (sys : System S K I O M) (ss : List (Step I)) where
  abbrev m : Meaning S I O M
  m = sys.meaning

  -- where no step was refused, the first refusal of one step more is that step's
  pub first_refused-more : (s : Step I) → first_refused sys.net sys.meaning sys.recovery ss ≡ None
      → first_refused sys.net sys.meaning sys.recovery (ss ++ s ∷ []) ≡ option_map (λ why. (length ss, why)) (refusal_of sys.net sys.meaning (world_of sys ss) s)
  first_refused-more s allowed =
      first_refused_from-append m sys.recovery sys.net (first_world m) ss (s ∷ []) allowed ∙ later-one (length ss) (refusal_of sys.net m (world_of sys ss) s)

  -- a step that is not refused goes on a schedule that is allowed
  pub allowed-more : (s : Step I) → first_refused sys.net sys.meaning sys.recovery ss ≡ None
      → refusal_of sys.net sys.meaning (world_of sys ss) s ≡ None → first_refused sys.net sys.meaning sys.recovery (ss ++ s ∷ []) ≡ None
  allowed-more s allowed not_refused =
      first_refused-more s allowed ∙ ap (λ f. option_map (λ (why : StepRefusal). (length ss, why)) f) not_refused

  pub trace-more : (s : Step I) → trace sys.meaning sys.recovery (ss ++ s ∷ []) ≡ trace sys.meaning sys.recovery ss ++ items_of sys.meaning (world_of sys ss) s
  trace-more s = trace_from-append m sys.recovery (first_world m) ss (s ∷ []) ∙ ap (λ xs. trace m sys.recovery ss ++ xs) (append-nil (items_of m (world_of sys ss) s))

  pub world_of-more : (s : Step I) → world_of sys (ss ++ s ∷ []) ≡ next sys.meaning sys.recovery (world_of sys ss) s
  world_of-more s = run_from-append m sys.recovery (first_world m) ss (s ∷ [])

  -- what a network answers to a step, as what a run does
  pub run_answer : (s : Step I) (r : Result (Unit {0}) StepFault) → first_refused sys.net sys.meaning sys.recovery ss ≡ None
      → IsAnswer r (refusal_of sys.net sys.meaning (world_of sys ss) s)
      → IsRunAnswer r (length ss) (first_refused sys.net sys.meaning sys.recovery (ss ++ s ∷ []))
  run_answer s (Ok x) allowed e = allowed-more s allowed e
  run_answer s (Err (fault.Refused why)) allowed e = first_refused-more s allowed ∙ ap (λ f. option_map (λ (x : StepRefusal). (length ss, x)) f) e
  run_answer s (Err fault.Memory) allowed e = allowed-more s allowed e

  -- a step that is refused after steps that aren't is the first that is, whatever follows it
  pub refused_next : (ts : List (Step I)) (s : Step I) (y : RunFault) → first_refused sys.net sys.meaning sys.recovery ss ≡ None
      → IsRunRefusal y (first_refused sys.net sys.meaning sys.recovery (ss ++ s ∷ []))
      → IsRunRefusal y (first_refused sys.net sys.meaning sys.recovery (ss ++ s ∷ ts))
  refused_next ts s run_fault.Memory allowed e = tt
  refused_next ts s (run_fault.Step why place) allowed e =
      first_refused_from-append m sys.recovery sys.net (first_world m) ss (s ∷ ts) allowed
      ∙ go (refusal_of sys.net m (world_of sys ss) s) (sym (first_refused-more s allowed) ∙ e)
    where
      go : (f : Option StepRefusal) → option_map {U = ℕ × StepRefusal} (λ (x : StepRefusal). (length ss, x)) f ≡ Some (place, why)
          → later (length ss) (place_and_why f (first_refused_from sys.net m sys.recovery (next m sys.recovery (world_of sys ss) s) ts)) ≡ Some (place, why)
      go None e = absurd (cc (e))
      go (Some x) e = later-first (length ss) x ∙ e

-- a network has taken one more step
pub has_taken-more : {W S K I O M : Type 0} (sys : System S K I O M) (follows : W → List (Step I) → Type 0) (progress : W → Progress I O) (ss : List (Step I)) (s : Step I) (r q : W)
    → HasTaken sys follows progress ss r
    → refusal_of sys.net sys.meaning (world_of sys ss) s ≡ None
    → (progress q).taken ≡ (progress r).taken + 1
    → follows q (ss ++ s ∷ [])
    → HasTaken sys follows progress (ss ++ s ∷ []) q
has_taken-more sys follows progress ss s r q had not_refused counted followed = record {
  followed = followed;
  allowed = allowed-more sys ss s had.allowed not_refused;
  counted = omega (arith, counted, had.counted, length-append ss (s ∷ []));
}

-- and clients saw what they did of it
pub traced-more : {S K I O M : Type 0} (sys : System S K I O M) (ss : List (Step I)) (s : Step I) (gone old new : List (Item I O))
    → gone ++ old ≡ trace sys.meaning sys.recovery ss → new ≡ old ++ items_of sys.meaning (world_of sys ss) s
    → gone ++ new ≡ trace sys.meaning sys.recovery (ss ++ s ∷ [])
traced-more sys ss s gone old new had is =
    let seen = items_of sys.meaning (world_of sys ss) s in
    ap (λ xs. gone ++ xs) is ∙ (sym (append_assoc gone old seen) ∙ (ap (λ xs. xs ++ seen) had ∙ sym (trace-more sys ss s)))

-- a list round its i-th item
pub at_item : {A : Type 0} (xs : List A) (i : ℕ) (x : A) → i < length xs → x ≡ get_or xs i x → xs ≡ take i xs ++ x ∷ drop (i + 1) xs
at_item xs i x below is = sym (take-append-drop i xs) ∙ ap (λ ys. take i xs ++ ys) (drop-cons xs i x below ∙ rw (add-one, ← is) refl)
