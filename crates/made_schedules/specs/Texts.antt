-- Inputs of made schedules that have texts, and short ones.
use Rattle.std.specs.Prelude.{ℕ, ◌<◌, ◌≤◌, List, length}
use Rattle.schedule_make.specs.Made.{Inputs}
use Rattle.vst_base.specs.declared.step.TheConstants.{MAX_STEPS}

-- at each place of a schedule, whatever the random word, the input has a text of at most so many bytes
pub record HaveTexts {I : Type 0} (most : ℕ) (HasText : I → Type 0) (input_text : I → List ℕ) (inputs : Inputs I) : Type 0 where
  pub has_text : (x i : ℕ) → i < MAX_STEPS → HasText (inputs x i)
  pub short : (x i : ℕ) → i < MAX_STEPS → length (input_text (inputs x i)) ≤ most

-- short ones leave room on a line for what stands before them
abbrev pub HaveShortTexts : {I : Type 0} → (I → Type 0) → (I → List ℕ) → Inputs I → Type 0
HaveShortTexts HasText input_text inputs = HaveTexts 4000 HasText input_text inputs

-- and those of commands for a client's number and the request's too
abbrev pub HaveCommandTexts : {I : Type 0} → (I → Type 0) → (I → List ℕ) → Inputs I → Type 0
HaveCommandTexts HasText input_text inputs = HaveTexts 3900 HasText input_text inputs
