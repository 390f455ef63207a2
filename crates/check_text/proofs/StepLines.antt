-- A line of an image that is a schedule says what a line of a schedule says, but that none is skipped, and none is an act or a stop.
use Rattle.std.specs.Prelude.{◌≡◌, ℕ, Bool, true, false, List, [], ◌∷◌, Option, Some, None, Result, Ok, Err, cond, refl}
use Rattle.std.proofs.Common.{ap, ◌∙◌, sym, eqb-true}
use Rattle.vst_base.specs.declared.step.Step.{Step}
use Rattle.line_reader.specs.declared.why.Why.{Why}
use Rattle.line_reader.specs.declared.why.Why.TheVariants as why
use Rattle.schedule_text.specs.declared.line.Line.{Line}
use Rattle.schedule_text.specs.declared.line.Line.TheVariants as line
use Rattle.schedule_text.specs.Reading.{is_skipped, line_of, line_says, said_of, step_or_refusal}
use Rattle.schedule_text.specs.Words.{cut}
use Rattle.check_text.specs.declared.image_line.ImageLine.{ImageLine}
use Rattle.check_text.specs.declared.image_line.ImageLine.TheVariants as image
use Rattle.check_text.specs.ImageLines.{begins_as_act, said_or_refused, step_says}

-- what a line of a schedule is as one of an image
abbrev pub of_line : {I : Type 0} → Line I → ImageLine (Step I)
of_line line.Skipped = image.Refused why.UnknownWord
of_line (line.IsStep s) = image.Says s
of_line (line.Refused w) = image.Refused w

-- a line that is skipped has none of the words
no-word-after : (bs : List ℕ) (o : Option (List ℕ × List ℕ)) → cut bs ≡ o → said_of (35 ∷ bs) ≡ Err why.UnknownWord
no-word-after bs None e = rw e refl
no-word-after bs (Some p) e = rw e refl

no-word : (l : List ℕ) → is_skipped l ≡ true → said_of l ≡ Err why.UnknownWord
no-word [] e = refl
no-word (b ∷ bs) e = ap (λ n. said_of (n ∷ bs)) (eqb-true b 35 e) ∙ no-word-after bs (cut bs) refl

skipped-is : {I : Type 0} (f : List ℕ → Option I) (l : List ℕ) → said_of l ≡ Err why.UnknownWord → image.Refused why.UnknownWord ≡ said_or_refused (step_or_refusal f 0 l)
skipped-is f l e = rw e refl

of-both : {I : Type 0} (r : Result (Step I) Why) → of_line (line_of r) ≡ said_or_refused r
of-both (Ok s) = refl
of-both (Err w) = refl

by-skip : {I : Type 0} (f : List ℕ → Option I) (l : List ℕ) (t : Bool) → is_skipped l ≡ t → of_line (cond t line.Skipped (line_of (step_or_refusal f 0 l))) ≡ said_or_refused (step_or_refusal f 0 l)
by-skip f l true e = skipped-is f l (no-word l e)
by-skip f l false e = of-both (step_or_refusal f 0 l)

pub step-said : {I : Type 0} (f : List ℕ → Option I) (l : List ℕ) → begins_as_act l ≡ false → of_line (line_says f 0 l) ≡ step_says f l
step-said f l other =
    by-skip f l (is_skipped l) refl ∙ sym (ap (λ t. cond t (image.Refused why.UnknownWord) (said_or_refused (step_or_refusal f 0 l))) other)
