-- What is said of a run by the answer without faults.
use Rattle.std.specs.Prelude.{◌≡◌, ◌⊎◌, ℕ, ◌≤◌, List, [], ◌++◌, length, Option, Some, None, IfSome}
use Rattle.std.specs.Bool.{OnTrue}
use Rattle.outside.specs.Counting.{Rose}
use Rattle.outside.specs.Wholes.{Gained, Gave}
use Rattle.line_reader.specs.Lines.{split_lines}
use Rattle.command_line.specs.declared.command.Command.{Command}
use Rattle.command_line.specs.declared.command.Command.TheVariants as command
use Rattle.command_line.specs.declared.command.MadeSchedule.{MadeSchedule}
use Rattle.made_schedules.specs.MadeTexts.{made_counts, made_text}
use Rattle.schedule_replay.specs.Explained.{IsReplay}
use Rattle.schedule_replay.specs.Outcomes.{KeptUp}
use Rattle.schedule_replay.specs.Replays.{replayed, replayed_so_far}
use Rattle.stacks.specs.Checks.{IsNotPermitted, IsPermitted}
use Rattle.commands.specs.Answers.{Answer, answer_by, input_of, reads, so_far_by}
use Rattle.commands.specs.Seen.{Run}

-- what is said of the answer, where it is known: of a command that reads, where its input is told; of any other always
abbrev pub IfAnswered : Option Command → Run → (Answer → Type 0) → Type 0
IfAnswered command r P = IfSome (input_of command r.before.input.left) (λ bytes. P (answer_by command bytes))

-- where no read and no write failed, the status is the answer's, or 8
abbrev pub IsComplete : Option Command → Run → ℕ → Type 0
IsComplete command r result = IfAnswered command r (λ answer. ¬ Rose r.before.input.faults r.after.input.faults → ¬ Rose r.before.out.faults r.after.out.faults
    → ¬ Rose r.before.err.faults r.after.err.faults → (result ≡ answer.status) ⊎ (result ≡ 8))

-- a command that reads has read its input to its end
abbrev pub IsReadToEnd : Option Command → Run → Type 0
IsReadToEnd command r = OnTrue (reads command) (IfSome r.before.input.left (λ bytes. r.after.input.left ≡ Some []))

-- of an input that broke off these bytes were given: none of their whole lines is refused, what comes after the last of these is
-- not too long yet, and the output gained exactly what the command writes for them
pub record BrokeOff (command : Option Command) (r : Run) : Type 0 where
  pub given : List ℕ
  pub gave : Gave r.before.input.left r.after.input.left given
  pub short : length (split_lines given).1 ≤ 4096
  pub taken : (so_far_by command given).refused ≡ None
  pub out : Gained r.before.out.written r.after.out.written (so_far_by command given).out

-- of a replay whose input tells: out gained the trace of all that was given but its last 4,096 bytes, or more
abbrev pub KeepsUp : Option Command → Run → Type 0
KeepsUp None r = Unit {0}
KeepsUp (Some command.Replay) r =
    IfSome r.before.input.left (λ bytes. KeptUp replayed_so_far bytes r.after.input.left r.before.out.written r.after.out.written)
KeepsUp (Some (command.Check stack)) r = Unit {0}
KeepsUp (Some (command.Make s)) r = Unit {0}
KeepsUp (Some (command.Summarize s)) r = Unit {0}

-- out gained a replay of these bytes: they read as a header and steps that the network allows, and the text is that of their trace
-- and of an image that explains it
abbrev pub GainedReplay : Run → List ℕ → Type 0
GainedReplay r bytes = IfSome r.before.out.written (λ held. (text : List ℕ) × (r.after.out.written ≡ Some (held ++ text)) × IsReplay bytes text)

-- a replay takes the made schedule to its end, and comes to these counts
pub record IsTaken (s : MadeSchedule) : Type 0 where
  pub whole : (replayed (made_text s.stack s.seed s.steps)).refused ≡ None
  pub counts : (replayed (made_text s.stack s.seed s.steps)).counts ≡ made_counts s.stack s.seed s.steps

-- what a command that is done has shown: replay, that what out gained is a replay of the input; check, that the input is a claim
-- whose image explains its trace; a schedule that was made or summarized, that a replay takes it whole
abbrev pub IsExplained : Option Command → Run → Type 0
IsExplained None r = ⊥
IsExplained (Some command.Replay) r = IfSome r.before.input.left (GainedReplay r)
IsExplained (Some (command.Check stack)) r = IfSome r.before.input.left (IsPermitted stack)
IsExplained (Some (command.Make s)) r = IsTaken s
IsExplained (Some (command.Summarize s)) r = IsTaken s

-- and what a check has shown at which a condition is false: the input is a claim whose image does not explain its trace
abbrev pub IsRefuted : Option Command → Run → Type 0
IsRefuted None r = ⊥
IsRefuted (Some command.Replay) r = ⊥
IsRefuted (Some (command.Check stack)) r = IfSome r.before.input.left (IsNotPermitted stack)
IsRefuted (Some (command.Make s)) r = ⊥
IsRefuted (Some (command.Summarize s)) r = ⊥
