-- What a run of a command over texts comes to, and one whose words ask for nothing: a record each, with a field for each status.
use Rattle.std.specs.Prelude.{◌≡◌, ◌⊎◌, ℕ, List, Some, None}
use Rattle.command_line.specs.declared.command.Command.{Command}
use Rattle.commands.specs.Seen.{KeepsCounts, Run}
use Rattle.commands.specs.Runs.{IsComplete}
use Rattle.commands.specs.Statuses.{AreWordsRefused, HasReadFailed, HasWriteFailed, IsDenied, IsDone, IsLineRefused, IsOutOfMemory, IsTextStatus}

-- the run of a command, and the status that it answers
pub record AnswersCommand (command : Command) (r : Run) (result : ℕ) : Type 0 where
  -- it is one of six
  pub status : IsTextStatus result
  -- where no call failed it is that of the answer without faults, or 8
  pub complete : IsComplete (Some command) r result
  -- what it says
  pub done : result ≡ 0 → IsDone (Some command) r
  pub denied : result ≡ 1 → IsDenied (Some command) r
  pub refused : result ≡ 3 → IsLineRefused (Some command) r
  pub read : result ≡ 4 → HasReadFailed (Some command) r
  pub write : result ≡ 5 → HasWriteFailed (Some command) r
  pub memory : result ≡ 8 → IsOutOfMemory (Some command) r
  -- no count of faults fell
  pub counts : KeepsCounts r

-- the run of words that ask for nothing, and the status that it answers
pub record RefusesWords (ws : List (List ℕ)) (r : Run) (result : ℕ) : Type 0 where
  pub status : (result ≡ 2) ⊎ (result ≡ 5) ⊎ (result ≡ 8)
  pub complete : IsComplete None r result
  pub words : result ≡ 2 → AreWordsRefused ws r
  pub write : result ≡ 5 → HasWriteFailed None r
  pub memory : result ≡ 8 → IsOutOfMemory None r
  pub counts : KeepsCounts r
