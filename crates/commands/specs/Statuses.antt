-- What each status of the program says of a run: one record for each. Told contents are optional; what is said of them holds where
-- they are told. What a check leaves on the output is said whatever its input tells (`verdict`).
use Rattle.std.specs.Prelude.{◌≡◌, ◌⊎◌, ℕ, ◌+◌, ◌≤◌, false, List, length, IsTrue, Option, IfSome}
use Rattle.std.specs.Bool.{OnTrue}
use Rattle.outside.specs.Counting.{Rose}
use Rattle.outside.specs.Wholes.{Gained, GainedPrefix, Gave}
use Rattle.line_reader.specs.declared.why.Why.{Why}
use Rattle.line_reader.specs.Lines.{decided}
use Rattle.schedule_text.specs.Printing.{refusal_line}
use Rattle.command_line.specs.CommandSet.{takes_words}
use Rattle.command_line.specs.declared.command.Command.{Command}
use Rattle.commands.specs.Lines.{memory_line, read_failed_line}
use Rattle.commands.specs.Answers.{condition_line, is_check, permitted_line, reads, usage_line}
use Rattle.commands.specs.Complaints.{WasSaying}
use Rattle.commands.specs.Runs.{BrokeOff, IfAnswered, IsExplained, IsReadToEnd, IsRefuted, KeepsUp}
use Rattle.commands.specs.Seen.{IsQuiet, Run, WritesQuietly}

-- a status of a command over texts
abbrev pub IsTextStatus : ℕ → Type 0
IsTextStatus n = (n ≡ 0) ⊎ (n ≡ 1) ⊎ (n ≡ 3) ⊎ (n ≡ 4) ⊎ (n ≡ 5) ⊎ (n ≡ 8)

-- 0: a command that reads has read its input to its end, the output gained the whole answer, and the error stream nothing
pub record IsDone (command : Option Command) (r : Run) : Type 0 where
  pub ended : IsReadToEnd command r
  pub status : IfAnswered command r (λ answer. answer.status ≡ 0)
  pub out : IfAnswered command r (λ answer. Gained r.before.out.written r.after.out.written answer.out)
  pub verdict : OnTrue (is_check command) (Gained r.before.out.written r.after.out.written permitted_line)
  pub err : r.after.err ≡ r.before.err
  pub explained : IsExplained command r
  pub quiet : IsQuiet r

-- 1: a condition of a claim is false. The claim was read to its end, the output is as it was, and the error stream gained the
-- condition and its line
pub record IsDenied (command : Option Command) (r : Run) : Type 0 where
  pub condition : ℕ
  pub line : ℕ
  pub ended : IsReadToEnd command r
  pub status : IfAnswered command r (λ answer. answer.status ≡ 1)
  pub named : IfAnswered command r (λ answer. answer.err ≡ condition_line condition line)
  pub out : r.after.out ≡ r.before.out
  pub err : Gained r.before.err.written r.after.err.written (condition_line condition line)
  pub refuted : IsRefuted command r
  pub quiet : IsQuiet r

-- 2: the words are refused, and nothing was read or written but this
pub record AreWordsRefused (words : List (List ℕ)) (r : Run) : Type 0 where
  pub not_taken : takes_words words ≡ false
  pub input : r.after.input ≡ r.before.input
  pub out : r.after.out ≡ r.before.out
  pub err : Gained r.before.err.written r.after.err.written usage_line
  pub quiet : IsQuiet r

-- 3: a line is refused, the output gained what the command writes before it, and the error stream its line. At most 4,096 bytes of
-- the input were given past the byte that decided it
pub record IsLineRefused (command : Option Command) (r : Run) : Type 0 where
  pub line : ℕ
  pub why : Why
  pub reading : IsTrue (reads command)
  pub status : IfAnswered command r (λ answer. answer.status ≡ 3)
  pub named : IfAnswered command r (λ answer. answer.err ≡ refusal_line line why)
  pub ahead : IfSome r.before.input.left (λ bytes. (given : List ℕ) × Gave r.before.input.left r.after.input.left given × (length given ≤ decided line bytes + 4096))
  pub out : IfAnswered command r (λ answer. Gained r.before.out.written r.after.out.written answer.out)
  pub verdict : OnTrue (is_check command) (r.after.out ≡ r.before.out)
  pub err : Gained r.before.err.written r.after.err.written (refusal_line line why)
  pub quiet : IsQuiet r

-- 4: a read failed, and the error stream gained the line that says so
pub record HasReadFailed (command : Option Command) (r : Run) : Type 0 where
  pub reading : IsTrue (reads command)
  pub rose : Rose r.before.input.faults r.after.input.faults
  pub given : IfSome r.before.input.left (λ bytes. BrokeOff command r)
  pub verdict : OnTrue (is_check command) (r.after.out ≡ r.before.out)
  pub err : Gained r.before.err.written r.after.err.written read_failed_line
  pub quiet : WritesQuietly r

-- a front of the answer was written on the output, and of a replay no less than the trace of what was given, but for its last bytes
pub record WroteFront (command : Option Command) (r : Run) : Type 0 where
  pub out : IfAnswered command r (λ answer. GainedPrefix r.before.out.written r.after.out.written answer.out)
  pub verdict : OnTrue (is_check command) (GainedPrefix r.before.out.written r.after.out.written permitted_line)
  pub kept_up : KeepsUp command r

-- a write of the output failed, and no other call: the error stream is as it was
pub record HasOutFailed (r : Run) : Type 0 where
  pub rose : Rose r.before.out.faults r.after.out.faults
  pub wants : r.after.out.wants ≡ r.before.out.wants
  pub reads : r.after.input.faults ≡ r.before.input.faults
  pub err : r.after.err ≡ r.before.err

-- a write of the error stream failed, and none wanted memory, while it gained a line that the run may say
pub record HasErrFailed (command : Option Command) (r : Run) : Type 0 where
  pub rose : Rose r.before.err.faults r.after.err.faults
  pub wants : r.after.err.wants ≡ r.before.err.wants
  pub saying : WasSaying command r

-- 5: a write failed: one of the output, or one of the error stream
pub record HasWriteFailed (command : Option Command) (r : Run) : Type 0 where
  pub front : WroteFront command r
  pub failed : HasOutFailed r ⊎ HasErrFailed command r

-- the error stream gained the line of want of memory, and no read failed
pub record HasSaidMemory (r : Run) : Type 0 where
  pub err : Gained r.before.err.written r.after.err.written memory_line
  pub reads : r.after.input.faults ≡ r.before.input.faults

-- 8: want of memory, and no write failed. The error stream gained its line; or it wanted memory itself, while it gained a line that
-- the run may say
pub record IsOutOfMemory (command : Option Command) (r : Run) : Type 0 where
  pub front : WroteFront command r
  pub writes : r.after.out.faults ≡ r.before.out.faults
  pub complains : r.after.err.faults ≡ r.before.err.faults
  pub wanted : HasSaidMemory r ⊎ (Rose r.before.err.wants r.after.err.wants × WasSaying command r)
