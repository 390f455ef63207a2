-- What a run says on its error stream, and when it may say so.
use Rattle.std.specs.Prelude.{◌≡◌, ◌⊎◌, ℕ, Bool, true, false, List, IfSome, IsTrue, None, Option}
use Rattle.outside.specs.Counting.{Rose}
use Rattle.outside.specs.Wholes.{GainedPrefix}
use Rattle.schedule_text.specs.Printing.{refusal_line}
use Rattle.command_line.specs.declared.command.Command.{Command}
use Rattle.commands.specs.Answers.{Answer, condition_line, is_check, reads, usage_line}
use Rattle.commands.specs.Runs.{BrokeOff, IfAnswered}
use Rattle.commands.specs.Lines.{memory_line, read_failed_line}
use Rattle.commands.specs.Saying.{Said}
use Rattle.commands.specs.Seen.{Run, SinkSeen}
use Rattle.commands.specs.declared.complaint.Complaint.{Complaint}
use Rattle.commands.specs.declared.complaint.Complaint.TheVariants as complaint

-- the status that a complaint is told with, and its line
abbrev pub status_of : Complaint → ℕ
status_of (complaint.Condition condition line) = 1
status_of complaint.Words = 2
status_of (complaint.Line line why) = 3
status_of complaint.Read = 4
status_of complaint.Memory = 8

abbrev pub line_of : Complaint → List ℕ
line_of (complaint.Condition condition line) = condition_line condition line
line_of complaint.Words = usage_line
line_of (complaint.Line line why) = refusal_line line why
line_of complaint.Read = read_failed_line
line_of complaint.Memory = memory_line

-- the answer has the status and the line of this complaint
pub record Complains (c : Complaint) (answer : Answer) : Type 0 where
  pub status : answer.status ≡ status_of c
  pub line : answer.err ≡ line_of c

-- a run of a command has cause for a complaint: a false condition and a refused line where the answer to its input complains so,
-- refused words where they name no command, a failed read where a read failed and the input broke off there. Want of memory needs none
abbrev pub HasCause : Option Command → Run → Complaint → Type 0
HasCause command r (complaint.Condition condition line) = IsTrue (is_check command) × IfAnswered command r (Complains (complaint.Condition condition line))
HasCause command r complaint.Words = command ≡ None
HasCause command r (complaint.Line line why) = IsTrue (reads command) × IfAnswered command r (Complains (complaint.Line line why))
HasCause command r complaint.Read = IsTrue (reads command) × Rose r.before.input.faults r.after.input.faults × IfSome r.before.input.left (λ bytes. BrokeOff command r)
HasCause command r complaint.Memory = Unit {0}

-- a complaint hides no other fault: a read failed only where that is the complaint, no write of the output failed, and one wanted
-- memory only where that is the complaint
pub record HidesNothing (c : Complaint) (r : Run) : Type 0 where
  pub reads : (r.after.input.faults ≡ r.before.input.faults) ⊎ (c ≡ complaint.Read)
  pub writes : r.after.out.faults ≡ r.before.out.faults
  pub wants : (r.after.out.wants ≡ r.before.out.wants) ⊎ (c ≡ complaint.Memory)

-- a run of a command may say this line on the error stream
pub record MaySay (command : Option Command) (r : Run) (line : List ℕ) : Type 0 where
  pub saying : Complaint
  pub cause : HasCause command r saying
  pub hides : HidesNothing saying r
  pub line_is : line ≡ line_of saying

-- a front of such a line was written
pub record WasSaying (command : Option Command) (r : Run) : Type 0 where
  pub line : List ℕ
  pub may : MaySay command r line
  pub front : GainedPrefix r.before.err.written r.after.err.written line

-- whether the line of a complaint is made, which takes memory. The others stand in the program
abbrev pub is_made : Complaint → Bool
is_made (complaint.Condition condition line) = true
is_made complaint.Words = false
is_made (complaint.Line line why) = true
is_made complaint.Read = false
is_made complaint.Memory = false

-- what telling a complaint comes to: its line is said; or, where the line could not be made, that memory is wanted
abbrev pub Told : Complaint → SinkSeen → SinkSeen → ℕ → Type 0
Told c before after result =
    Said (status_of c) (line_of c) before after result ⊎ (IsTrue (is_made c) × Said 8 memory_line before after result)
