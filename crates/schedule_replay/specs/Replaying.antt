-- What replay makes of a text: the run of its steps up to the first that the network or the grammar refuses, its
-- trace, and, where none is refused, the image below it.
use Rattle.std.specs.Prelude.{ℕ, zero, suc, Bool, true, false, List, [], ◌∷◌, ◌++◌, length, take, count_by, Option, Some, None}
use Rattle.vst_base.specs.declared.step.Step.{Step}
use Rattle.vst_base.specs.declared.step.Item.{Item}
use Rattle.vst_base.specs.declared.step.Item.TheVariants as item
use Rattle.vst_base.specs.declared.step.StepRefusal.{StepRefusal}
use Rattle.vst_base.specs.declared.step.StepRefusal.TheVariants as refusal
use Rattle.line_reader.specs.declared.why.Why.{Why}
use Rattle.line_reader.specs.declared.why.Why.TheVariants as why
use Rattle.schedule_text.specs.Schedules.{Script}
use Rattle.schedule_text.specs.Printing.{trace_text}
use Rattle.schedule_replay.specs.declared.done.Done.{Done}
use Rattle.stacks.specs.ClaimTexts.{image_text}
use Rattle.stacks.specs.Plays.{Play}
use Rattle.schedule_replay.specs.Explained.{steps_of}

-- a world's refusal as a line's
abbrev pub why_of : StepRefusal → Why
why_of refusal.NotThisNet = why.NotThisNet
why_of refusal.NoSuchNode = why.NoSuchNode
why_of refusal.NoInputHere = why.NoInputHere
why_of refusal.NodeDown = why.NodeDown
why_of refusal.NodeUp = why.NodeUp
why_of refusal.NoCopy = why.NoCopy
why_of refusal.NotFirst = why.NotFirst
why_of refusal.NodeBusy = why.NodeBusy
why_of refusal.NodeIdle = why.NodeIdle
why_of refusal.PairUsed = why.PairUsed

-- the line of the step at a place; that of a refusal is always the place of a step
abbrev pub line_at : {I : Type 0} → ℕ → List (ℕ × Step I) → ℕ
line_at n [] = 0
line_at zero (s ∷ ss) = s.0
line_at (suc n) (s ∷ ss) = line_at n ss

-- the first line that is refused: that of the first step that the world does not take, or else the one at which the
-- grammar stopped; and the steps before it
abbrev pub stop_at : {I : Type 0} → Script I → Option (ℕ × StepRefusal) → Option (ℕ × Why)
stop_at sc None = sc.fault
stop_at sc (Some p) = Some (line_at p.0 sc.steps, why_of p.1)

abbrev pub taken_at : {I : Type 0} → Script I → Option (ℕ × StepRefusal) → List (Step I)
taken_at sc None = steps_of sc
taken_at sc (Some p) = take p.0 (steps_of sc)

-- the same by how schedules of a stack play
module _ {I O G : Type 0} (p : Play I O G) where
  abbrev pub stop : Script I → Option (ℕ × Why)
  stop sc = stop_at sc (p.refused (steps_of sc))

  abbrev pub taken : Script I → List (Step I)
  taken sc = taken_at sc (p.refused (steps_of sc))

  -- the lines of the trace, and of the image below it
  abbrev pub trace_lines : List (Step I) → List ℕ
  trace_lines ss = trace_text p.texts.input_text p.texts.output_text (p.trace ss)

  abbrev pub image_lines : List (Step I) → List ℕ
  image_lines ss = image_text p.below.header p.below.line (p.image ss)

abbrev pub is_input : {I O : Type 0} → Item I O → Bool
is_input (item.Input n i) = true
is_input (item.Output n o) = false

abbrev pub is_output : {I O : Type 0} → Item I O → Bool
is_output (item.Input n i) = false
is_output (item.Output n o) = true

abbrev pub is_reply_by : {I O : Type 0} → (O → Bool) → Item I O → Bool
is_reply_by test (item.Input n i) = false
is_reply_by test (item.Output n o) = test o

abbrev pub counts_of : {I O G : Type 0} → Play I O G → List (Step I) → Done
counts_of p ss = record {
  events = length ss;
  inputs = count_by is_input (p.trace ss);
  outputs = count_by is_output (p.trace ss);
  replies = count_by (is_reply_by p.texts.is_reply) (p.trace ss);
  image = length (p.image ss);
}

-- where a text was not taken to its end nothing is told of its counts
abbrev pub no_counts : Done
no_counts = record { events = 0; inputs = 0; outputs = 0; replies = 0; image = 0 }

-- what is written, the line that is refused, if one is, and else the counts
pub record Replayed : Type 0 where
  pub out : List ℕ
  pub refused : Option (ℕ × Why)
  pub counts : Done

-- a text that is refused at this line before any step
abbrev pub refused_at : ℕ → Why → Replayed
refused_at number w = record { out = []; refused = Some (number, w); counts = no_counts }

-- where no line is refused, the image stands below the trace, if the text was read to its end
abbrev pub ended : {I O G : Type 0} → Play I O G → Bool → List (Step I) → Option (ℕ × Why) → Replayed
ended p whole ss (Some r) = record { out = trace_lines p ss; refused = Some r; counts = no_counts }
ended p true ss None = record { out = trace_lines p ss ++ image_lines p ss; refused = None; counts = counts_of p ss }
ended p false ss None = record { out = trace_lines p ss; refused = None; counts = no_counts }

abbrev pub replayed_script : {I O G : Type 0} → Play I O G → Bool → Script I → Replayed
replayed_script p whole sc = ended p whole (taken p sc) (stop p sc)
