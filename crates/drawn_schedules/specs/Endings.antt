-- What each status says of a run that draws the schedule on its input.
use Rattle.std.specs.Prelude.{◌≡◌, ◌⊎◌, ℕ, None, Some, IfSome}
use Rattle.line_reader.specs.declared.why.Why.{Why}
use Rattle.outside.specs.Counting.{Rose}
use Rattle.outside.specs.Wholes.{Gained}
use Rattle.commands.specs.Lines.{memory_line, read_failed_line}
use Rattle.commands.specs.Seen.{IsQuiet, Run, WritesQuietly}
use Rattle.schedule_replay.specs.Replays.{replayed}
use Rattle.schedule_text.specs.Printing.{refusal_line}

-- 0: replay refuses no line, and nothing is said on the error stream
pub record IsDrawn (r : Run) : Type 0 where
  pub taken : IfSome r.before.input.left (λ bytes. (replayed bytes).refused ≡ None)
  pub err : r.after.err ≡ r.before.err
  pub quiet : IsQuiet r

-- 3: replay refuses this line first, nothing is drawn, and the error stream gained its line
pub record IsRefused (r : Run) : Type 0 where
  pub line : ℕ
  pub why : Why
  pub refused : IfSome r.before.input.left (λ bytes. (replayed bytes).refused ≡ Some (line, why))
  pub out : r.after.out ≡ r.before.out
  pub err : Gained r.before.err.written r.after.err.written (refusal_line line why)
  pub quiet : IsQuiet r

-- 4: a read failed, nothing is drawn, and the error stream gained the line that says so
pub record HasReadFailed (r : Run) : Type 0 where
  pub rose : Rose r.before.input.faults r.after.input.faults
  pub out : r.after.out ≡ r.before.out
  pub err : Gained r.before.err.written r.after.err.written read_failed_line
  pub quiet : WritesQuietly r

-- the status, and what it says: 5 where a write of the output or of the error stream failed; 8 where memory was wanted, which the error
-- stream was told, or wanted itself
abbrev pub EndsAs : Run → ℕ → Type 0
EndsAs r status =
    ((status ≡ 0) × IsDrawn r) ⊎ ((status ≡ 3) × IsRefused r) ⊎ ((status ≡ 4) × HasReadFailed r)
    ⊎ ((status ≡ 5) × (Rose r.before.out.faults r.after.out.faults ⊎ Rose r.before.err.faults r.after.err.faults))
    ⊎ ((status ≡ 8) × (Gained r.before.err.written r.after.err.written memory_line ⊎ Rose r.before.err.wants r.after.err.wants))
