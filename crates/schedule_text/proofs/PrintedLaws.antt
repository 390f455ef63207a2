-- The lines that steps are printed as, and what they are read as.
use Rattle.std.specs.Prelude.{◌≡◌, ℕ, Bool, true, false, ◌==◌, ◌||◌, ◌+◌, ◌<◌, ◌≤◌, nat_le, List, [], ◌∷◌, length, map, Option, Some, None, Result, Ok, cond, refl}
use Rattle.std.specs.Fmt.{decimal}
use Rattle.std.specs.List.{list_all, list_any}
use Rattle.std.proofs.Common.{ap, ◌∙◌, sym, append_assoc, arith}
use Rattle.std.proofs.lemmas.Bool.{and_parts, leb-true, ne_eqb}
use Rattle.std.proofs.lemmas.Bool.Decides.{nat_tests}
use Rattle.std.proofs.lemmas.Fmt.{digits_decimal}
use Rattle.vst_base.specs.declared.step.Step.{Step}
use Rattle.vst_base.specs.declared.step.Step.TheVariants as step
use Rattle.vst_base.specs.declared.step.StepKind.{StepKind}
use Rattle.vst_base.specs.declared.step.StepKind.TheVariants as kind
use Rattle.line_reader.specs.declared.why.Why.{Why}
use Rattle.line_reader.specs.Lines.{cut_at, lines_of}
use Rattle.line_reader.proofs.Cutting.{none-from, none-append}
use Rattle.line_reader.proofs.Lining.{lines-line}
use Rattle.line_reader.proofs.Taking.{allows}
use Rattle.schedule_text.specs.declared.line.Line.TheVariants as line
use Rattle.schedule_text.specs.Reading.{is_skipped, line_of, line_says, step_or_refusal}
use Rattle.schedule_text.specs.Words.{word_of, is_digit}
use Rattle.schedule_text.specs.Printing.{numbered, step_text, steps_text}
use Rattle.schedule_text.specs.Schedules.{script, with_step}
use Rattle.schedule_text.specs.Spellable.{IsSpellable, AreSpellable, numbered_steps}
use Rattle.schedule_text.proofs.NumeralLaws.{own}
use Rattle.schedule_text.proofs.ReadBackLaws.{line-reads-back}
use Rattle.schedule_text.proofs.ScheduleLaws.{line-said, script-by}

-- texts without a newline
or-parts : (t u : Bool) → (t || u) ≡ false → (t ≡ false) × (u ≡ false)
or-parts true u e = cc
or-parts false u e = (refl, e)

pub plain-text : (bs : List ℕ) → list_any (λ b. b == 10) bs ≡ false → cut_at 10 bs ≡ None
plain-text [] e = refl
plain-text (b ∷ bs) e =
    let parts = or-parts (b == 10) (list_any (λ b. b == 10) bs) e in
    none-from 10 b bs parts.0 (plain-text bs parts.1)

plain-digits : (ds : List ℕ) → list_all is_digit ds ≡ true → cut_at 10 ds ≡ None
plain-digits [] all = refl
plain-digits (d ∷ ds) all =
    let parts : (is_digit d ≡ true) × (list_all is_digit ds ≡ true) = and_parts (is_digit d) (list_all is_digit ds) all in
    let first : (nat_le 48 d ≡ true) × (nat_le d 57 ≡ true) = and_parts (nat_le 48 d) (nat_le d 57) parts.0 in
    none-from 10 d ds (ne_eqb d 10 (λ e. omega (arith, leb-true 48 d first.0, e))) (plain-digits ds parts.1)

pub plain-number : (n : ℕ) → n < 4294967296 → cut_at 10 (decimal n) ≡ None
plain-number n fits = plain-digits (decimal n) (digits_decimal own n (omega (arith, fits)))

plain-numbered : (k : StepKind) (n : ℕ) → n < 4294967296 → cut_at 10 (numbered (word_of k) n) ≡ None
plain-numbered k n fits = none-append 10 (word_of k) (32 ∷ decimal n) (word k) (none-from 10 32 (decimal n) refl (plain-number n fits)) where
  word : (k : StepKind) → cut_at 10 (word_of k) ≡ None
  word kind.In = refl
  word kind.Deliver = refl
  word kind.Tick = refl
  word kind.Dup = refl
  word kind.Lose = refl
  word kind.Crash = refl
  word kind.Reboot = refl

module _ {I : Type 0} (f : List ℕ → Option I) (t : I → List ℕ) (HasText : I → Type 0) (reads : (i : I) → HasText i → f (t i) ≡ Some i) (plain : (i : I) → HasText i → list_any (λ b. b == 10) (t i) ≡ false) where
  pub plain-step : (s : Step I) → IsSpellable HasText s → cut_at 10 (step_text t s) ≡ None
  plain-step (step.In n i) h = none-append 10 (numbered (word_of kind.In) n) (32 ∷ t i) (plain-numbered kind.In n h.0) (none-from 10 32 (t i) refl (plain-text (t i) (plain i h.1)))
  plain-step (step.Deliver k) h = plain-numbered kind.Deliver k h
  plain-step (step.Tick n) h = plain-numbered kind.Tick n h
  plain-step (step.Dup k) h = plain-numbered kind.Dup k h
  plain-step (step.Lose k) h = plain-numbered kind.Lose k h
  plain-step (step.Crash n) h = plain-numbered kind.Crash n h
  plain-step (step.Reboot n) h = plain-numbered kind.Reboot n h

  pub steps-lines : (ss : List (Step I)) → AreSpellable HasText t ss → lines_of (steps_text t ss) ≡ map (λ s. step_text t s) ss
  steps-lines [] h = refl
  steps-lines (s ∷ ss) h =
      ap lines_of (append_assoc (step_text t s) (10 ∷ []) (steps_text t ss))
      ∙ (lines-line (step_text t s) (steps_text t ss) (plain-step s h.0) ∙ ap (λ ls. step_text t s ∷ ls) (steps-lines ss h.2))

  not-skipped : (s : Step I) → is_skipped (step_text t s) ≡ false
  not-skipped (step.In n i) = refl
  not-skipped (step.Deliver k) = refl
  not-skipped (step.Tick n) = refl
  not-skipped (step.Dup k) = refl
  not-skipped (step.Lose k) = refl
  not-skipped (step.Crash n) = refl
  not-skipped (step.Reboot n) = refl

  says-by : (t : Bool) (r : Result (Step I) Why) (s : Step I) → t ≡ false → r ≡ Ok s → cond t line.Skipped (line_of r) ≡ line.IsStep s
  says-by t r s e is = rw (e, is) refl

  says-of : (e : ℕ) (s : Step I) → IsSpellable HasText s → e < 1000000 → line_says f e (step_text t s) ≡ line.IsStep s
  says-of e s h few =
      let l = step_text t s in
      let room : nat_le 1000000 e ≡ false = grind (arith, nat_tests) in
      says-by (is_skipped l) (step_or_refusal f e l) s (not-skipped s) (line-reads-back f t HasText reads e s h room)

  steps-script : (most n e : ℕ) (ss : List (Step I)) → AreSpellable HasText t ss → n + length ss ≤ most + 1 → e + length ss ≤ 1000000
      → script most f n e (map (λ s. step_text t s) ss) ≡ record { steps = numbered_steps n ss; fault = None }
  steps-script most n e [] h lines events = refl
  steps-script most n e (s ∷ ss) h lines events =
      let l = step_text t s in
      let said = line-said most f n e l (line.IsStep s) (allows most n l h.1 (omega (arith, lines))) (sym (says-of e s h.0 (omega (arith, events)))) in
      script-by most f n e l (map (λ s. step_text t s) ss) (line.IsStep s) said
      ∙ ap (λ sc. with_step n s sc) (steps-script most (n + 1) (e + 1) ss h.2 (omega (arith, lines)) (omega (arith, events)))

  pub steps-read : (most n e : ℕ) (ss : List (Step I)) → AreSpellable HasText t ss → n + length ss ≤ most + 1 → e + length ss ≤ 1000000
      → script most f n e (lines_of (steps_text t ss)) ≡ record { steps = numbered_steps n ss; fault = None }
  steps-read most n e ss h lines events = ap (script most f n e) (steps-lines ss h) ∙ steps-script most n e ss h lines events
