-- The text of a schedule that is made from a number, and what replaying it comes to.
use Rattle.std.specs.Prelude.{ℕ, min, List, [], ◌++◌}
use Rattle.vst_base.specs.Stacks.{row_of}
use Rattle.vst_base.specs.declared.net.Net.{Net}
use Rattle.vst_base.specs.declared.net.Net.TheVariants as net
use Rattle.vst_base.specs.declared.stack.StackId.{StackId}
use Rattle.vst_base.specs.declared.stack.StackRow.{StackRow}
use Rattle.vst_base.specs.declared.step.Step.{Step}
use Rattle.schedule_text.specs.Headers.{header_text}
use Rattle.schedule_text.specs.Printing.{as_line, steps_text}
use Rattle.schedule_text.specs.declared.header.Header.{Header}
use Rattle.schedule_replay.specs.Replaying.{counts_of, no_counts}
use Rattle.schedule_replay.specs.declared.done.Done.{Done}
use Rattle.stacks.specs.Kinds.{header_on}
use Rattle.stacks.specs.Plays.{found_or, Play}
use Rattle.stacks.specs.Made.{AnyMade, makes_at}

-- four nodes, five where they stop, so that a majority can outlive two, or as many as the stack can have
abbrev pub wanted_nodes : Net → ℕ
wanted_nodes net.Fail = 5
wanted_nodes net.Acts = 5
wanted_nodes n = 4

abbrev pub made_nodes : StackRow → ℕ
made_nodes row = min (wanted_nodes row.net) row.most

-- the header of a made schedule of a stack
abbrev pub made_header : StackId → Header
made_header i = header_on i (made_nodes (row_of i))

-- a value by what is made for a stack with that header, if it is in the table
abbrev pub with_made : {B : Type 0} → B → (AnyMade → B) → StackId → B
with_made b f i = found_or b f (makes_at (made_header i))

-- the lines of the steps, where schedules are made by this number and have so many steps
abbrev pub step_lines : {I O G : Type 0} → Play I O G → (ℕ → ℕ → List (Step I)) → ℕ → ℕ → List ℕ
step_lines p made seed steps = steps_text p.texts.input_text (made seed steps)

-- the whole text
abbrev pub made_text : StackId → ℕ → ℕ → List ℕ
made_text i seed steps = as_line (header_text (made_header i)) ++ with_made [] (λ a. step_lines a.plays.play a.made seed steps) i

-- what replaying it comes to in numbers
abbrev pub made_counts : StackId → ℕ → ℕ → Done
made_counts i seed steps = with_made no_counts (λ a. counts_of a.plays.play (a.made seed steps)) i
