-- What a command over texts without faults does, from its input.
use Rattle.std.specs.Prelude.{ℕ, Bool, true, false, List, [], ◌∷◌, ◌++◌, Option, Some, None, Result, Ok, Err, codes, if◌then◌else◌}
use Rattle.line_reader.specs.declared.why.Why.{Why}
use Rattle.line_reader.specs.Lines.{whole_lines}
use Rattle.schedule_text.specs.Printing.{as_line, numbered, refusal_line}
use Rattle.command_line.specs.declared.command.Command.{Command}
use Rattle.command_line.specs.declared.command.Command.TheVariants as command
use Rattle.command_line.specs.declared.command.MadeSchedule.{MadeSchedule}
use Rattle.made_schedules.specs.MadeTexts.{made_counts, made_text}
use Rattle.schedule_replay.specs.Replaying.{Replayed}
use Rattle.schedule_replay.specs.declared.done.Done.{Done}
use Rattle.schedule_replay.specs.Replays.{replayed, replayed_so_far}
use Rattle.stacks.specs.Checks.{checked, refused_so_far}
use Rattle.claim_verdicts.specs.declared.verdict.Verdict.{Verdict}
use Rattle.claim_verdicts.specs.declared.verdict.Verdict.TheVariants as verdict

-- the status, the text on the output, and the line on the error stream
pub record Answer : Type 0 where
  pub status : ℕ
  pub out : List ℕ
  pub err : List ℕ

abbrev pub usage_line : List ℕ
usage_line = as_line (codes "usage")

-- the line on the error stream where a line of the input is refused
abbrev pub refusal_text : Option (ℕ × Why) → List ℕ
refusal_text None = []
refusal_text (Some r) = refusal_line r.0 r.1

abbrev pub refusal_status : Option (ℕ × Why) → ℕ
refusal_status None = 0
refusal_status (Some r) = 3

abbrev pub answer_of : Replayed → Answer
answer_of r = record { status = refusal_status r.refused; out = r.out; err = refusal_text r.refused }

-- the line on the output where no condition of a claim is false, and that on the error stream where one is
abbrev pub permitted_line : List ℕ
permitted_line = as_line (codes "permitted")

abbrev pub condition_line : ℕ → ℕ → List ℕ
condition_line condition line = as_line (numbered (codes "condition") condition ++ 32 ∷ numbered (codes "line") line)

abbrev pub answer_to_claim : Result Verdict (ℕ × Why) → Answer
answer_to_claim (Ok verdict.Yes) = record { status = 0; out = permitted_line; err = [] }
answer_to_claim (Ok (verdict.No condition line)) = record { status = 1; out = []; err = condition_line condition line }
answer_to_claim (Err r) = record { status = 3; out = []; err = refusal_line r.0 r.1 }

-- the counts of a replay, a line each
abbrev pub counts_text : Done → List ℕ
counts_text d =
    as_line (numbered (codes "events") d.events) ++ as_line (numbered (codes "inputs") d.inputs) ++ as_line (numbered (codes "outputs") d.outputs)
    ++ as_line (numbered (codes "replies") d.replies) ++ as_line (numbered (codes "image") d.image)

-- a command that reads nothing writes this text
abbrev pub answer_with : List ℕ → Answer
answer_with text = record { status = 0; out = text; err = [] }

abbrev pub schedule_answer : MadeSchedule → Answer
schedule_answer s = answer_with (made_text s.stack s.seed s.steps)

abbrev pub summary_answer : MadeSchedule → Answer
summary_answer s = answer_with (counts_text (made_counts s.stack s.seed s.steps))

-- what a command does with its input, and where the words name none
abbrev pub answer_by : Option Command → List ℕ → Answer
answer_by None input = record { status = 2; out = []; err = usage_line }
answer_by (Some command.Replay) input = answer_of (replayed input)
answer_by (Some (command.Check s)) input = answer_to_claim (checked s input)
answer_by (Some (command.Make s)) input = schedule_answer s
answer_by (Some (command.Summarize s)) input = summary_answer s

-- of an input that broke off: what a command has written for its whole lines, and the line of them that is refused, if one is
pub record SoFar : Type 0 where
  pub out : List ℕ
  pub refused : Option (ℕ × Why)

abbrev pub so_far_of : Replayed → SoFar
so_far_of r = record { out = r.out; refused = r.refused }

abbrev pub so_far_by : Option Command → List ℕ → SoFar
so_far_by None given = record { out = []; refused = None }
so_far_by (Some command.Replay) given = so_far_of (replayed_so_far given)
so_far_by (Some (command.Check s)) given = record { out = []; refused = refused_so_far s (whole_lines given) }
so_far_by (Some (command.Make s)) given = record { out = []; refused = None }
so_far_by (Some (command.Summarize s)) given = record { out = []; refused = None }

-- whether a command reads its input, and whether it is a check. Words that name none ask for nothing
abbrev pub reads : Option Command → Bool
reads None = false
reads (Some command.Replay) = true
reads (Some (command.Check s)) = true
reads (Some (command.Make s)) = false
reads (Some (command.Summarize s)) = false

abbrev pub is_check : Option Command → Bool
is_check None = false
is_check (Some command.Replay) = false
is_check (Some (command.Check s)) = true
is_check (Some (command.Make s)) = false
is_check (Some (command.Summarize s)) = false

-- what a command answers to, where it is known: what its input has, where this is told; nothing, if it reads none
abbrev pub input_of : Option Command → Option (List ℕ) → Option (List ℕ)
input_of command left = if reads command then left else Some []
