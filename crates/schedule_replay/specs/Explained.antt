-- What the output of a replay is.
use Rattle.std.specs.Prelude.{◌≡◌, ℕ, List, None, map}
use Rattle.vst_base.specs.declared.step.Step.{Step}
use Rattle.line_reader.specs.Lines.{lines_of}
use Rattle.schedule_text.specs.Schedules.{Opened, opening, script, Script}
use Rattle.schedule_text.specs.declared.header.Header.{Header}
use Rattle.stacks.specs.ClaimTexts.{claim_by, claim_text}
use Rattle.stacks.specs.Plays.{IfFound, AnyPlay}
use Rattle.stacks.specs.Table.{plays_at}
use Rattle.schedule_text.specs.declared.reading.TheConstants.{MAX_LINES}

-- the greatest number of a line
abbrev pub most_lines : ℕ
most_lines = MAX_LINES

-- the steps without the numbers of their lines
abbrev pub steps_of : {I : Type 0} → Script I → List (Step I)
steps_of sc = map (λ p. p.1) sc.steps

-- after a header these lines, of which the first has this number, say steps without a fault; the stack's network allows the steps;
-- the text is that of the claim that the steps make, their trace and their image; and the image explains the trace
pub record IsReplayOn (a : AnyPlay) (number : ℕ) (ls : List (List ℕ)) (text : List ℕ) : Type 0 where
  pub steps : List (Step a.Input)
  pub faultless : (script most_lines a.play.texts.input_of number 0 ls).fault ≡ None
  pub says : steps_of (script most_lines a.play.texts.input_of number 0 ls) ≡ steps
  pub allowed : a.play.refused steps ≡ None
  pub written : text ≡ claim_text a.play (claim_by a.play steps)
  pub explained : a.Explains (claim_by a.play steps)

-- the bytes open with a header, and the text is so by the stack of the header
pub record IsReplay (bytes text : List ℕ) : Type 0 where
  pub header : Header
  pub number : ℕ
  pub lines : List (List ℕ)
  pub opens : opening most_lines 1 (lines_of bytes) ≡ Opened header number lines
  pub replayed : IfFound (plays_at header) (λ a. IsReplayOn a number lines text)
