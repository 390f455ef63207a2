-- Scripts whose first steps the network takes.
use Rattle.std.specs.Prelude.{◌≡◌, ℕ, ◌+◌, ◌-◌, ◌≤◌, List, [], ◌∷◌, ◌++◌, map, take, length, Option, Some, None, refl}
use Rattle.std.proofs.Common.{ap, ◌∙◌, sym, arith, append_assoc}
use Rattle.std.proofs.lemmas.List.{map-append, length-map}
use Rattle.std.proofs.Math.Seq.{take-append-add, take-append_seam}
use Rattle.vst_base.specs.declared.step.Step.{Step}
use Rattle.vst_base.specs.declared.step.StepRefusal.{StepRefusal}
use Rattle.line_reader.specs.declared.why.Why.{Why}
use Rattle.schedule_text.specs.Schedules.{Script, with_step}
use Rattle.schedule_text.proofs.ScheduleLaws.{prefixed}
use Rattle.xform_stack.specs.SystemLaws.{IsCausal}
use Rattle.xform_stack.specs.Systems.{Played}
use Rattle.schedule_replay.specs.Replaying.{why_of, line_at, stop_at, taken_at}
use Rattle.schedule_replay.specs.Explained.{steps_of}

module _ {I : Type 0} where
  -- steps without the numbers of their lines
  abbrev pub unnumbered : List (ℕ × Step I) → List (Step I)
  unnumbered steps = map (λ p. p.1) steps

  -- the line of a step after others
  line_at-here : (done more : List (ℕ × Step I)) (x : ℕ × Step I) → line_at (length done) (done ++ x ∷ more) ≡ x.0
  line_at-here [] more x = refl
  line_at-here (d ∷ done) more x = line_at-here done more x

  -- the steps themselves
  steps-behind : (done : List (ℕ × Step I)) (rest : Script I) → steps_of (prefixed done rest) ≡ unnumbered done ++ steps_of rest
  steps-behind done rest = map-append (λ (p : ℕ × Step I). p.1) done rest.steps

module _ {I O G : Type 0} (run : Played I O G) (done : List (ℕ × Step I)) (none : run.refused (unnumbered done) ≡ None) where
  -- where a script stops, and what is taken of it
  abbrev pub StopsAt : Script I → Option (ℕ × Why) → Type 0
  StopsAt sc stop = (stop_at sc (run.refused (steps_of sc)) ≡ stop) × (taken_at sc (run.refused (steps_of sc)) ≡ unnumbered done)

  -- where no step is refused, a script stops at its fault alone
  pub all-taken : (fault : Option (ℕ × Why)) (sc : Script I) → sc ≡ record { steps = done; fault = fault } → StopsAt sc fault
  all-taken fault sc is = rw is (ap (stop_at (record { steps = done; fault = fault })) none, ap (taken_at (record { steps = done; fault = fault })) none)

  module _ (causal : IsCausal run) where
    -- a step after them that is refused is where it stops
    pub refused-after : (number : ℕ) (s : Step I) (rest sc : Script I) (w : StepRefusal) → sc ≡ prefixed done (with_step number s rest)
        → run.refused (unnumbered done ++ s ∷ []) ≡ Some (length (unnumbered done), w) → StopsAt sc (Some (number, why_of w))
    refused-after number s rest sc w is refused =
        let steps = unnumbered done in
        let sc' = prefixed done (with_step number s rest) in
        let behind : steps_of sc' ≡ steps ++ s ∷ steps_of rest = steps-behind done (with_step number s rest) in
        let size : length steps ≡ length done = length-map done (λ (p : ℕ × Step I). p.1) in
        let whole : steps_of sc' ≡ (steps ++ s ∷ []) ++ steps_of rest = behind ∙ sym (append_assoc steps (s ∷ []) (steps_of rest)) in
        let first : run.refused (steps_of sc') ≡ Some (length steps, w) =
        ap run.refused whole ∙ causal.refused (steps ++ s ∷ []) (steps_of rest) (length steps, w) refused in
        rw is (
          ap (stop_at sc') first ∙ (ap (λ n. Some (line_at n sc'.steps, why_of w)) size
              ∙ ap (λ n. Some (n, why_of w)) (line_at-here done rest.steps (number, s))),
          ap (taken_at sc') first ∙ (ap (take (length steps)) behind ∙ take-append_seam steps (s ∷ steps_of rest)),
        )

    -- whatever follows, they are taken
    taken-later : (rest : Script I) (o : Option (ℕ × StepRefusal)) → run.refused (steps_of (prefixed done rest)) ≡ o
        → (ts : List (Step I)) × (taken_at (prefixed done rest) o ≡ unnumbered done ++ ts)
    taken-later rest None is = (steps_of rest, steps-behind done rest)
    taken-later rest (Some q) is =
        let steps = unnumbered done in
        let behind = steps-behind done rest in
        let within : length steps ≤ q.0 = causal.after steps (steps_of rest) q none (ap run.refused (sym behind) ∙ is) in
        let k = q.0 - length steps in
        let place : q.0 ≡ length steps + k = omega (arith, within) in (
          take k (steps_of rest),
          ap (λ ss. take q.0 ss) behind
              ∙ (ap (λ n. take n (steps ++ steps_of rest)) place ∙ take-append-add steps (steps_of rest) k),
        )

    pub taken-front : (rest sc : Script I) → sc ≡ prefixed done rest
        → (ts : List (Step I)) × (taken_at sc (run.refused (steps_of sc)) ≡ unnumbered done ++ ts)
    taken-front rest sc is =
        let both = taken-later rest (run.refused (steps_of (prefixed done rest))) refl in
        (both.0, ap (λ (x : Script I). taken_at x (run.refused (steps_of x))) is ∙ both.1)
