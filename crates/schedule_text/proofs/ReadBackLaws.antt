-- A step that is printed reads back.
use Rattle.std.specs.Prelude.{◌≡◌, ℕ, true, false, nat_le, List, [], ◌∷◌, ◌++◌, Option, Some, Ok, refl}
use Rattle.std.specs.Fmt.{decimal}
use Rattle.std.specs.List.{list_all}
use Rattle.std.specs.Result.{result_ok}
use Rattle.std.proofs.Common.{ap, arith}
use Rattle.std.proofs.lemmas.Bool.{and_parts, leb-true, ne_eqb}
use Rattle.std.proofs.lemmas.Fmt.{digits_decimal}
use Rattle.vst_base.specs.declared.step.Step.{Step}
use Rattle.vst_base.specs.declared.step.Step.TheVariants as step
use Rattle.schedule_text.specs.Printing.{step_text}
use Rattle.schedule_text.specs.Reading.{step_of, step_or_refusal}
use Rattle.schedule_text.specs.Spellable.{IsSpellable}
use Rattle.schedule_text.specs.Words.{cut, is_digit}
use Rattle.schedule_text.proofs.NumeralLaws.{number_of-decimal, own}

-- digits end at the first space
cut-digit : (b : ℕ) (bs ds text : List ℕ) → (b ≡ 32 → ⊥) → cut bs ≡ Some (ds, text) → cut (b ∷ bs) ≡ Some (b ∷ ds, text)
cut-digit b bs ds text other e = rw (ne_eqb b 32 other, e) refl

pub cut-digits : (ds text : List ℕ) → list_all is_digit ds ≡ true → cut (ds ++ 32 ∷ text) ≡ Some (ds, text)
cut-digits [] text all = refl
cut-digits (d ∷ ds) text all =
    let parts : (is_digit d ≡ true) × (list_all is_digit ds ≡ true) = and_parts (is_digit d) (list_all is_digit ds) all in
    let first : (nat_le 48 d ≡ true) × (nat_le d 57 ≡ true) = and_parts (nat_le 48 d) (nat_le d 57) parts.0 in
    cut-digit d (ds ++ 32 ∷ text) ds text (λ e. omega (arith, leb-true 48 d first.0)) (cut-digits ds text parts.1)

-- so its line says the step where few events stand before it
pub line-reads-back : {I : Type 0} (input_of : List ℕ → Option I) (input_text : I → List ℕ) (HasText : I → Type 0) (reads : (i : I) → HasText i → input_of (input_text i) ≡ Some i) (e : ℕ) (s : Step I)
    → IsSpellable HasText s → nat_le 1000000 e ≡ false → step_or_refusal input_of e (step_text input_text s) ≡ Ok s
line-reads-back input_of input_text HasText reads e (step.In n i) h few =
    let front : cut (decimal n ++ 32 ∷ input_text i) ≡ Some (decimal n, input_text i) = cut-digits (decimal n) (input_text i) (digits_decimal own n (omega (arith, h.0))) in
    rw (front, number_of-decimal n h.0, few, reads i h.1) refl
line-reads-back input_of input_text HasText reads e (step.Deliver k) h few = rw (number_of-decimal k h, few) refl
line-reads-back input_of input_text HasText reads e (step.Tick n) h few = rw (number_of-decimal n h, few) refl
line-reads-back input_of input_text HasText reads e (step.Dup k) h few = rw (number_of-decimal k h, few) refl
line-reads-back input_of input_text HasText reads e (step.Lose k) h few = rw (number_of-decimal k h, few) refl
line-reads-back input_of input_text HasText reads e (step.Crash n) h few = rw (number_of-decimal n h, few) refl
line-reads-back input_of input_text HasText reads e (step.Reboot n) h few = rw (number_of-decimal n h, few) refl

pub step-reads-back : {I : Type 0} (input_of : List ℕ → Option I) (input_text : I → List ℕ) (HasText : I → Type 0) (reads : (i : I) → HasText i → input_of (input_text i) ≡ Some i) (s : Step I)
    → IsSpellable HasText s → step_of input_of (step_text input_text s) ≡ Some s
step-reads-back input_of input_text HasText reads s h = ap result_ok (line-reads-back input_of input_text HasText reads 0 s h refl)
