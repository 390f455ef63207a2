-- Laws of runs: what further steps add to a run, a trace and the first refusal.
use Rattle.std.specs.Prelude.{◌≡◌, ℕ, zero, suc, List, [], ◌∷◌, ◌++◌, length, Option, Some, None, option_map, refl}
use Rattle.std.proofs.Common.{ap, ◌∙◌, sym, append_assoc}
use Rattle.handler_trait.specs.Handling.{Meaning, Recovery}
use Rattle.vst_base.specs.Machines.{MachineMeaning, outputs_from}
use Rattle.vst_base.specs.declared.net.Net.{Net}
use Rattle.vst_base.specs.declared.step.Step.{Step}
use Rattle.vst_base.specs.declared.step.StepRefusal.{StepRefusal}
use Rattle.net_semantics.specs.Worlds.{World}
use Rattle.net_semantics.specs.Steps.{next, refusal_of, items_of}
use Rattle.net_semantics.specs.Runs.{run_from, trace_from, first_refused_from, machine_trace_from, outputs_in, place_and_why}

-- a refusal that comes n steps later
abbrev pub later : ℕ → Option (ℕ × StepRefusal) → Option (ℕ × StepRefusal)
later zero o = o
later (suc n) o = option_map (λ p. (suc p.0, p.1)) (later n o)

-- none is first only where neither the step nor one after it is refused
pub place_and_why-none : (f : Option StepRefusal) (o : Option (ℕ × StepRefusal)) → place_and_why f o ≡ None → (f ≡ None) × (o ≡ None)
place_and_why-none (Some why) o e = cc
place_and_why-none None None e = (refl, refl)
place_and_why-none None (Some p) e = cc

pub place_and_why-later : (f : Option StepRefusal) (o : Option (ℕ × StepRefusal)) → f ≡ None → place_and_why f o ≡ later 1 o
place_and_why-later None o e = refl
place_and_why-later (Some why) o e = cc

pub place_and_why-first : (f : Option StepRefusal) (o : Option (ℕ × StepRefusal)) (why : StepRefusal) → f ≡ Some why → place_and_why f o ≡ Some (0, why)
place_and_why-first f o why e = rw e refl

module _ {S K I O M : Type 0} (m : Meaning S I O M) (r : Recovery S K) where
  -- a run goes on where it stopped
  pub run_from-append : (w : World S K M) (ss ts : List (Step I)) → run_from m r w (ss ++ ts) ≡ run_from m r (run_from m r w ss) ts
  run_from-append w [] ts = refl
  run_from-append w (s ∷ ss) ts = run_from-append (next m r w s) ss ts

  pub trace_from-append : (w : World S K M) (ss ts : List (Step I)) → trace_from m r w (ss ++ ts) ≡ trace_from m r w ss ++ trace_from m r (run_from m r w ss) ts
  trace_from-append w [] ts = refl
  trace_from-append w (s ∷ ss) ts = ap (λ xs. items_of m w s ++ xs) (trace_from-append (next m r w s) ss ts) ∙ sym (append_assoc (items_of m w s) (trace_from m r (next m r w s) ss) (trace_from m r (run_from m r (next m r w s) ss) ts))

  -- after steps of which none is refused, the first refusal is that of the steps that follow
  pub first_refused_from-append : (net : Net) (w : World S K M) (ss ts : List (Step I)) → first_refused_from net m r w ss ≡ None
      → first_refused_from net m r w (ss ++ ts) ≡ later (length ss) (first_refused_from net m r (run_from m r w ss) ts)
  first_refused_from-append net w [] ts e = refl
  first_refused_from-append net w (s ∷ ss) ts e =
      let both = place_and_why-none (refusal_of net m w s) (first_refused_from net m r (next m r w s) ss) e in
      let rest = first_refused_from-append net (next m r w s) ss ts both.1 in
      place_and_why-later (refusal_of net m w s) _ both.0 ∙ ap (λ o. option_map (λ (p : ℕ × StepRefusal). (suc p.0, p.1)) o) rest

-- clients of a single machine see its outputs, in order
pub outputs_in-machine_trace_from : {S C O : Type 0} (m : MachineMeaning S C O) (s : S) (cs : List C) → outputs_in (machine_trace_from m s cs) ≡ outputs_from m s cs
outputs_in-machine_trace_from m s [] = refl
outputs_in-machine_trace_from m s (c ∷ cs) = ap (λ os. (m.apply s c).1 ∷ os) (outputs_in-machine_trace_from m (m.apply s c).0 cs)
