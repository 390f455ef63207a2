-- How steps, items and refusals are spelled. Each line ends with a newline.
use Rattle.std.specs.Prelude.{ℕ, List, [], ◌∷◌, ◌++◌, codes}
use Rattle.std.specs.List.{flat_map}
use Rattle.std.specs.Fmt.{decimal}
use Rattle.vst_base.specs.declared.step.Step.{Step}
use Rattle.vst_base.specs.declared.step.Step.TheVariants as step
use Rattle.vst_base.specs.declared.step.StepKind.TheVariants as kind
use Rattle.vst_base.specs.declared.step.Item.{Item}
use Rattle.vst_base.specs.declared.step.Item.TheVariants as item
use Rattle.line_reader.specs.declared.why.Why.{Why}
use Rattle.line_reader.specs.Whys.{why_text}
use Rattle.schedule_text.specs.Words.{word_of}

abbrev pub as_line : List ℕ → List ℕ
as_line text = text ++ 10 ∷ []

-- a line for each of some things, which are spelled so
abbrev pub lines_text : {X : Type 0} → (X → List ℕ) → List X → List ℕ
lines_text text xs = flat_map (λ x. as_line (text x)) xs

-- a word, a space and a number
abbrev pub numbered : List ℕ → ℕ → List ℕ
numbered word n = word ++ 32 ∷ decimal n

-- a step, where inputs are spelled so
abbrev pub step_text : {I : Type 0} → (I → List ℕ) → Step I → List ℕ
step_text input_text (step.In n i) = numbered (word_of kind.In) n ++ 32 ∷ input_text i
step_text input_text (step.Deliver k) = numbered (word_of kind.Deliver) k
step_text input_text (step.Tick n) = numbered (word_of kind.Tick) n
step_text input_text (step.Dup k) = numbered (word_of kind.Dup) k
step_text input_text (step.Lose k) = numbered (word_of kind.Lose) k
step_text input_text (step.Crash n) = numbered (word_of kind.Crash) n
step_text input_text (step.Reboot n) = numbered (word_of kind.Reboot) n

abbrev pub steps_text : {I : Type 0} → (I → List ℕ) → List (Step I) → List ℕ
steps_text input_text ss = lines_text (step_text input_text) ss

-- an item of a trace, where inputs and outputs are spelled so
abbrev pub item_text : {I O : Type 0} → (I → List ℕ) → (O → List ℕ) → Item I O → List ℕ
item_text input_text output_text (item.Input n i) = numbered (codes "in") n ++ 32 ∷ input_text i
item_text input_text output_text (item.Output n o) = numbered (codes "out") n ++ 32 ∷ output_text o

abbrev pub trace_text : {I O : Type 0} → (I → List ℕ) → (O → List ℕ) → List (Item I O) → List ℕ
trace_text input_text output_text items = lines_text (item_text input_text output_text) items

-- the line that names a refusal
abbrev pub refusal_line : ℕ → Why → List ℕ
refusal_line number w = as_line (numbered (codes "line") number ++ codes ": " ++ why_text w)
