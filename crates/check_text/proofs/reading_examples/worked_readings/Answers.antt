-- Reads of claims that failed.
use Rattle.std.proofs.Common.{◌≡◌, ℕ, ◌++◌, codes, Option, Some, None, refl, sym, ap, ◌∙◌, arith}
use Rattle.std.proofs.lemmas.List.{append_cancel_right}
use Rattle.line_reader.specs.Lines.{whole_lines}
use Rattle.line_reader.specs.declared.why.Why.{Why}
use Rattle.check_text.specs.Examples.{form}
use Rattle.check_text.specs.Forms.{claim_of}
use Rattle.check_text.specs.Reading.{refusal_so_far}
use Rattle.check_text.proofs.reading_examples.worked_readings.Goals as goal

pub returns-clause-broke_off : goal.returns-clause-broke_off
returns-clause-broke_off c =
    (codes "in 1 lock\nfo", record { rest' = codes "o\n"; left_is = refl; whole = refl; short = omega arith }, refl)

-- the number of the line, if one is refused
abbrev line_in : Option (ℕ × Why) → ℕ
line_in None = 0
line_in (Some r) = r.0

pub returns-clause-broke_off_after_a_refusal : goal.returns-clause-broke_off_after_a_refusal
returns-clause-broke_off_after_a_refusal c = λ x.
    let is : x.1.rest' ≡ codes "n" = cc x.1.left_is in
    let given : x.0 ≡ codes "foo\ni" =
    append_cancel_right x.0 (codes "foo\ni") (codes "n") (ap (λ xs. x.0 ++ xs) (sym is) ∙ sym x.1.whole) in
    let number : ◌≡◌ {A = ℕ} 1 0 =
    ap (λ r. line_in r) (sym (ap (λ xs. refusal_so_far (claim_of form (whole_lines xs))) given) ∙ x.2) in
    omega (arith, number)
