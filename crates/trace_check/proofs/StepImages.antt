-- The lines of an image that is a schedule.
use Rattle.std.specs.Prelude.{◌≡◌, ℕ, Bool, false, List, [], ◌∷◌, map, Option, Some, Result, Ok, cond, refl}
use Rattle.std.proofs.Common.{◌∙◌, arith}
use Rattle.app_text.specs.Spelling.{IsSpelling}
use Rattle.line_reader.specs.declared.why.Why.{Why}
use Rattle.line_reader.specs.declared.why.Why.TheVariants as why
use Rattle.schedule_text.specs.declared.header.Header.{Header}
use Rattle.schedule_text.specs.Headers.{header_text}
use Rattle.schedule_text.specs.Printing.{step_text}
use Rattle.schedule_text.specs.Reading.{step_or_refusal}
use Rattle.schedule_text.specs.Spellable.{IsSpellable}
use Rattle.schedule_text.proofs.PrintedLaws.{plain-step}
use Rattle.schedule_text.proofs.ReadBackLaws.{line-reads-back}
use Rattle.check_text.specs.Forms.{Form, after_below, with_header}
use Rattle.check_text.specs.ImageLines.{begins_as_act, image_header, said_or_refused, step_says}
use Rattle.check_text.specs.declared.image_line.ImageLine.TheVariants as line
use Rattle.vst_base.specs.declared.step.Step.{Step}
use Rattle.vst_base.specs.declared.step.Step.TheVariants as step
use Rattle.trace_check.proofs.ImageReading.{IsHeadedBy, headed-read}
use Rattle.trace_check.proofs.PlainLines.{IsPlain}
use Rattle.lists.specs.Each.{Each}

-- a step that is printed says the step
said-by : {I : Type 0} (b : Bool) (r : Result (Step I) Why) (s : Step I) → b ≡ false → r ≡ Ok s → cond b (line.Refused why.UnknownWord) (said_or_refused r) ≡ line.Says s
said-by b r s e1 e2 = rw (e1, e2) refl

no-act : {I : Type 0} (t : I → List ℕ) (s : Step I) → begins_as_act (step_text t s) ≡ false
no-act t (step.In n i) = refl
no-act t (step.Deliver k) = refl
no-act t (step.Tick n) = refl
no-act t (step.Dup k) = refl
no-act t (step.Lose k) = refl
no-act t (step.Crash n) = refl
no-act t (step.Reboot n) = refl

step-said : {I : Type 0} (f : List ℕ → Option I) (t : I → List ℕ) (HasIn : I → Type 0) (spelled : IsSpelling HasIn f t) (s : Step I) → IsSpellable HasIn s → step_says f (step_text t s) ≡ line.Says s
step-said f t HasIn spelled s has =
    let l = step_text t s in said-by (begins_as_act l) (step_or_refusal f 0 l) s (no-act t s) (line-reads-back f t HasIn spelled.reads_back 0 s has refl)

pub steps-said : {I : Type 0} (f : List ℕ → Option I) (t : I → List ℕ) (HasIn : I → Type 0) (spelled : IsSpelling HasIn f t) (ss : List (Step I)) → Each (IsSpellable HasIn) ss
    → Each (λ s. step_says f (step_text t s) ≡ line.Says s) ss
steps-said f t HasIn spelled [] has = tt
steps-said f t HasIn spelled (s ∷ ss) has = (step-said f t HasIn spelled s has.0, steps-said f t HasIn spelled ss has.1)

-- and none of them holds a newline
pub plain-steps : {I : Type 0} (f : List ℕ → Option I) (t : I → List ℕ) (HasIn : I → Type 0) (spelled : IsSpelling HasIn f t) (ss : List (Step I)) → Each (IsSpellable HasIn) ss → Each IsPlain (map (step_text t) ss)
plain-steps f t HasIn spelled [] has = tt
plain-steps f t HasIn spelled (s ∷ ss) has = (plain-step f t HasIn spelled.reads_back spelled.one_line s has.0, plain-steps f t HasIn spelled ss has.1)

-- below a header of this kind
pub headed-by : {I O X : Type 0} (form : Form I O X) (h : Header) → ((number : ℕ) (ls : List (List ℕ)) → after_below form form.below number ls ≡ with_header form form.below number ls) → image_header form.below (header_text h) ≡ Some h
    → IsHeadedBy form (Some h)
headed-by form h headed is number ls xs short within image = headed number (header_text h ∷ ls) ∙ headed-read form form.below number h ls xs is short.0 (omega (arith, within)) image
