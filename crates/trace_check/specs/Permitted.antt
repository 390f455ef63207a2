-- Which stack a text is a schedule of, and how much of what its replay writes a check reads.
use Rattle.std.specs.Prelude.{◌≡◌, ℕ, ◌≤◌, List, length, Option, None, Some}
use Rattle.vst_base.specs.declared.stack.StackId.{StackId}
use Rattle.vst_base.specs.declared.step.TheConstants.{MAX_STEPS}
use Rattle.vst_base.specs.Stacks.{row_of}
use Rattle.vst_base.specs.declared.net.Net.TheVariants as net
use Rattle.check_text.specs.declared.reading.TheConstants.{MAX_LINES}
use Rattle.line_reader.specs.Lines.{lines_of}
use Rattle.schedule_text.specs.Schedules.{Opening, Opened, RefusedAt, EndedAt, opening}
use Rattle.schedule_replay.specs.Explained.{most_lines}
use Rattle.schedule_replay.specs.Replaying.{Replayed}

-- the stack of the header with which a text opens, if it opens with one
abbrev pub stack_of_opening : Opening → Option StackId
stack_of_opening (Opened h number ls) = Some h.stack
stack_of_opening (RefusedAt number w) = None
stack_of_opening (EndedAt number) = None

abbrev pub stack_in : List ℕ → Option StackId
stack_in bytes = stack_of_opening (opening most_lines 1 (lines_of bytes))

-- on a network that stops nodes, where a node that starts again tells its clients once more what it told them, no more lines were
-- written than a check reads; and on one that loses packets, where the image has two steps for a packet that comes, no more lines of an
-- image. On the others there are never so many
pub record IsWithinLimits (s : StackId) (r : Replayed) : Type 0 where
  pub lines : (row_of s).net ≡ net.Fail → length (lines_of r.out) ≤ MAX_LINES
  pub image : (row_of s).net ≡ net.Loss → r.counts.image ≤ MAX_STEPS
