-- The steps of an image that was read have lines, and lines tell such steps apart.
use Rattle.std.specs.Prelude.{◌≡◌, ℕ, Bool, true, false, cond, List, [], ◌∷◌, map, Option, refl}
use Rattle.std.proofs.Common.{ap, ◌∙◌, sym}
use Rattle.app_text.specs.Spelling.{IsSpelling}
use Rattle.check_text.specs.ImageLines.{begins_as_act, said_or_refused, step_says}
use Rattle.check_text.specs.declared.image_line.ImageLine.{ImageLine}
use Rattle.check_text.specs.declared.image_line.ImageLine.TheVariants as line
use Rattle.line_reader.specs.declared.why.Why.TheVariants as why
use Rattle.schedule_text.specs.Printing.{step_text}
use Rattle.schedule_text.specs.Reading.{step_of, step_or_refusal}
use Rattle.schedule_text.specs.Spellable.{IsSpellable}
use Rattle.schedule_text.proofs.ReadBackLaws.{step-reads-back}
use Rattle.vst_base.specs.declared.step.Step.{Step}
use Rattle.schedule_text.proofs.SpellableLaws.{step-spellable}
use Rattle.trace_check.proofs.ReadClaims.{IfSays, said-there}
use Rattle.lists.specs.Each.{Each}
use Rattle.std.proofs.lemmas.Option.{same_Some}

-- lists of which each element has a text of its own are the same where their texts are
pub same-by : {A : Type 0} (P : A → Type 0) (text : A → List ℕ) → ((a b : A) → P a → P b → text a ≡ text b → a ≡ b) → (xs ys : List A) → Each P xs → Each P ys → map text xs ≡ map text ys → xs ≡ ys
same-by P text apart [] [] some others e = refl
same-by P text apart [] (y ∷ ys) some others e = cc
same-by P text apart (x ∷ xs) [] some others e = cc
same-by P text apart (x ∷ xs) (y ∷ ys) some others e =
    let heads : text x ≡ text y = cc in
    let tails : map text xs ≡ map text ys = cc in
    ap (λ a. a ∷ xs) (apart x y some.0 others.0 heads) ∙ ap (λ zs. y ∷ zs) (same-by P text apart xs ys some.1 others.1 tails)

unless-act : {X : Type 0} (P : X → Type 0) (b : Bool) (l : ImageLine X) → IfSays P l → IfSays P (cond b (line.Refused why.UnknownWord) l)
unless-act P true l has = tt
unless-act P false l has = has

module _ {I : Type 0} (f : List ℕ → Option I) (t : I → List ℕ) (HasIn : I → Type 0) (spelled : IsSpelling HasIn f t) where
  pub step-text : (l : List ℕ) → IfSays (IsSpellable HasIn) (step_says f l)
  step-text l = unless-act (IsSpellable HasIn) (begins_as_act l) (said_or_refused (step_or_refusal f 0 l)) (said-there (IsSpellable HasIn) (step_or_refusal f 0 l) (step-spellable f HasIn spelled.has_text 0 l))

  step-apart : (a b : Step I) → IsSpellable HasIn a → IsSpellable HasIn b → step_text t a ≡ step_text t b → a ≡ b
  step-apart a b one two e = same_Some a b (sym (step-reads-back f t HasIn spelled.reads_back a one) ∙ (ap (step_of f) e ∙ step-reads-back f t HasIn spelled.reads_back b two))

  pub same-steps : (ss ts : List (Step I)) → Each (IsSpellable HasIn) ss → Each (IsSpellable HasIn) ts → map (step_text t) ss ≡ map (step_text t) ts → ss ≡ ts
  same-steps = same-by (IsSpellable HasIn) (step_text t) step-apart
