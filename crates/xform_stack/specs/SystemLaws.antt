-- What running a schedule comes to is causal: what follows changes nothing of what a beginning came to.
use Rattle.std.specs.Prelude.{◌≡◌, ℕ, zero, suc, ◌+◌, ◌≤◌, List, [], ◌∷◌, ◌++◌, length, Option, Some, None, option_map, refl}
use Rattle.std.proofs.Common.{ap, ◌∙◌, sym, arith}
use Rattle.handler_trait.specs.Handling.{Meaning, Recovery}
use Rattle.net_semantics.specs.Runs.{first_refused_from, place_and_why, run, trace_from}
use Rattle.net_semantics.specs.RunLaws.{first_refused_from-append, later, trace_from-append}
use Rattle.net_semantics.specs.Steps.{next, refusal_of}
use Rattle.net_semantics.specs.Worlds.{World, first_world}
use Rattle.vst_base.specs.declared.net.Net.{Net}
use Rattle.vst_base.specs.declared.step.Item.{Item}
use Rattle.vst_base.specs.declared.step.Step.{Step}
use Rattle.vst_base.specs.declared.step.StepRefusal.{StepRefusal}
use Rattle.xform_stack.specs.Systems.{Played, System, played_on}

-- before the first step clients have seen nothing; and whatever steps follow a beginning: its first refusal stays the first; where it
-- has none, the first comes after it; and its trace stays, with more behind it
pub record IsCausal {I O G : Type 0} (p : Played I O G) : Type 0 where
  pub nothing : p.trace [] ≡ []
  pub refused : (ss ts : List (Step I)) (r : ℕ × StepRefusal) → p.refused ss ≡ Some r → p.refused (ss ++ ts) ≡ Some r
  pub after : (ss ts : List (Step I)) (r : ℕ × StepRefusal) → p.refused ss ≡ None → p.refused (ss ++ ts) ≡ Some r → length ss ≤ r.0
  pub trace : (ss ts : List (Step I)) → (more : List (Item I O)) × (p.trace (ss ++ ts) ≡ p.trace ss ++ more)

-- a refusal that comes n steps later
pub later-none : (n : ℕ) → later n None ≡ None
later-none zero = refl
later-none (suc n) = ap (λ o. option_map (λ (p : ℕ × StepRefusal). (suc p.0, p.1)) o) (later-none n)

pub later-some : (n : ℕ) (p : ℕ × StepRefusal) → later n (Some p) ≡ Some (n + p.0, p.1)
later-some zero p = ap (λ k. Some (k, p.1)) (omega arith)
later-some (suc n) p =
    ap (λ o. option_map (λ (q : ℕ × StepRefusal). (suc q.0, q.1)) o) (later-some n p) ∙ ap (λ k. Some (k, p.1)) (omega arith)

later-after : (n : ℕ) (o : Option (ℕ × StepRefusal)) (r : ℕ × StepRefusal) → later n o ≡ Some r → n ≤ r.0
later-after n None r is = let both : ◌≡◌ {A = Option (ℕ × StepRefusal)} None (Some r) = sym (later-none n) ∙ is in cc
later-after n (Some p) r is =
    let both : Some (n + p.0, p.1) ≡ Some r = sym (later-some n p) ∙ is in
    let place : n + p.0 ≡ r.0 = ap (λ (o : Option (ℕ × StepRefusal)). place_in o) both in
    omega (arith, place) where
      place_in : Option (ℕ × StepRefusal) → ℕ
      place_in None = 0
      place_in (Some q) = q.0

-- a first refusal depends on those behind it only where they are the first
place_and_why-stays : (f : Option StepRefusal) (o o' : Option (ℕ × StepRefusal)) (r : ℕ × StepRefusal)
    → ((q : ℕ × StepRefusal) → o ≡ Some q → o' ≡ Some q) → place_and_why f o ≡ Some r → place_and_why f o' ≡ Some r
place_and_why-stays (Some why) o o' r stays is = is
place_and_why-stays None None o' r stays is = cc
place_and_why-stays None (Some q) o' r stays is = ap (option_map (λ (p : ℕ × StepRefusal). (suc p.0, p.1))) (stays q refl) ∙ is

first_refused-stays : {S K I O M : Type 0} (net : Net) (m : Meaning S I O M) (k : Recovery S K) (w : World S K M) (ss ts : List (Step I))
    (r : ℕ × StepRefusal) → first_refused_from net m k w ss ≡ Some r → first_refused_from net m k w (ss ++ ts) ≡ Some r
first_refused-stays net m k w [] ts r is = cc
first_refused-stays net m k w (s ∷ ss) ts r is =
    let w' = next m k w s in
    place_and_why-stays (refusal_of net m w s) (first_refused_from net m k w' ss) (first_refused_from net m k w' (ss ++ ts)) r
    (λ q. first_refused-stays net m k w' ss ts q) is

-- schedules of handlers on a network are causal
pub played_on-causal : {S K I O M G : Type 0} (sys : System S K I O M) (image : List (Step I) → List G) → IsCausal (played_on sys image)
played_on-causal sys image = record {
  nothing = refl;
  refused = first_refused-stays sys.net sys.meaning sys.recovery (first_world sys.meaning);
  after = λ ss ts r none is.
      later-after (length ss) _ r
      (sym (first_refused_from-append sys.meaning sys.recovery sys.net (first_world sys.meaning) ss ts none) ∙ is);
  trace = λ ss ts. (
    trace_from sys.meaning sys.recovery (run sys.meaning sys.recovery ss) ts,
    trace_from-append sys.meaning sys.recovery (first_world sys.meaning) ss ts,
  );
}
