-- A schedule's lines: the header, the steps with their lines, and the first line that the grammar refuses.
use Rattle.std.specs.Prelude.{ℕ, ◌+◌, List, [], ◌∷◌, Option, Some, None, if◌then◌else◌}
use Rattle.vst_base.specs.Firsts.{first_of}
use Rattle.vst_base.specs.declared.step.Step.{Step}
use Rattle.line_reader.specs.declared.why.Why.{Why}
use Rattle.line_reader.specs.declared.why.Why.TheVariants as why
use Rattle.schedule_text.specs.Reading.{is_skipped, read_line}
use Rattle.schedule_text.specs.declared.header.Header.{Header}
use Rattle.schedule_text.specs.declared.line.Line.{Line}
use Rattle.schedule_text.specs.declared.line.Line.TheVariants.{Skipped, IsStep, Refused}
use Rattle.schedule_text.specs.Headers.{header_of}
use Rattle.line_reader.specs.Whys.{line_refusals}

-- how a text opens: with a header, the lines after it and the number of the first of them; with a refused line; or
-- with no line that isn't skipped, where the number is that of the line after the last
pub data Opening : Type 0 where
  Opened : (h : Header) → (number : ℕ) → (lines : List (List ℕ)) → Opening
  RefusedAt : (number : ℕ) → (w : Why) → Opening
  EndedAt : (number : ℕ) → Opening

abbrev pub opened : Option Header → ℕ → List (List ℕ) → Opening
opened None number ls = RefusedAt number why.Header
opened (Some h) number ls = Opened h (number + 1) ls

abbrev pub opening_unless : Option Why → ℕ → Opening → Opening
opening_unless (Some w) number o = RefusedAt number w
opening_unless None number o = o

-- the lines from this number on, where lines have at most that many
abbrev pub opening : ℕ → ℕ → List (List ℕ) → Opening
opening most number [] = EndedAt number
opening most number (l ∷ ls) =
    opening_unless (first_of (line_refusals most number l)) number
    (if is_skipped l then opening most (number + 1) ls else opened (header_of l) number ls)

-- the line at which a text is refused for its opening: a text that ends without a header is refused after its last line
abbrev pub opening_refusal : Opening → Option (ℕ × Why)
opening_refusal (Opened h number ls) = None
opening_refusal (RefusedAt number w) = Some (number, w)
opening_refusal (EndedAt number) = Some (number, why.Header)

-- the steps of a text after its header, each with its line, up to the first line that is refused, if one is
pub record Script (I : Type 0) : Type 0 where
  pub steps : List (ℕ × Step I)
  pub fault : Option (ℕ × Why)

abbrev pub with_step : {I : Type 0} → ℕ → Step I → Script I → Script I
with_step number s rest = record { steps = (number, s) ∷ rest.steps; fault = rest.fault }

abbrev pub no_steps : {I : Type 0} → Script I
no_steps = record { steps = []; fault = None }

abbrev pub refused_script : {I : Type 0} → ℕ → Why → Script I
refused_script number w = record { steps = []; fault = Some (number, w) }

-- a line at this number, with so many events before it, and what the lines after it are by the events before them
abbrev pub script_line : {I : Type 0} → Line I → ℕ → ℕ → (ℕ → Script I) → Script I
script_line Skipped number events rest = rest events
script_line (IsStep s) number events rest = with_step number s (rest (events + 1))
script_line (Refused w) number events rest = refused_script number w

-- the lines from this number on, with so many events before them, where lines have at most that many
abbrev pub script : {I : Type 0} → ℕ → (List ℕ → Option I) → ℕ → ℕ → List (List ℕ) → Script I
script most input_of number events [] = no_steps
script most input_of number events (l ∷ ls) =
    script_line (read_line most input_of number events l) number events (λ e. script most input_of (number + 1) e ls)
