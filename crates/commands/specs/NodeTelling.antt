-- What a node's run writes and answers, by what it came to.
use Rattle.std.specs.Prelude.{◌≡◌, ◌⊎◌, ℕ, Result, Ok, Err}
use Rattle.command_line.specs.AskedNodes.{NodeWordsView}
use Rattle.outside.specs.Counting.{Rose}
use Rattle.outside.specs.Wholes.{Gained, GainedPrefix}
use Rattle.commands.specs.Lines.{memory_line}
use Rattle.commands.specs.Saying.{Said, Tells}
use Rattle.commands.specs.Seen.{CountsNothing, KeepsCounts, SinkSeen}
use Rattle.udp_node.specs.declared.fault.NodeFault.TheVariants as fault
use Rattle.commands.specs.NodeComing.{Comes}
use Rattle.commands.specs.NodeLines.{line_of, status_of, turns_line}
use Rattle.commands.specs.NodeSeen.{NodeRun}
use Rattle.commands.specs.declared.trouble.Trouble.{Trouble}
use Rattle.commands.specs.declared.trouble.Trouble.TheVariants as trouble

-- the output wanted memory as it got the line of the turns
pub record OutWanted (turns : ℕ) (out out' : SinkSeen) : Type 0 where
  pub front : GainedPrefix out.written out'.written (turns_line turns)
  pub unfailed : out'.faults ≡ out.faults
  pub rose : Rose out.wants out'.wants

-- After the last turn the line on the output is written whole, or a front of it: a write failed, or memory was wanted.
module _ (turns : ℕ) (out out' err err' : SinkSeen) (result : ℕ) where
  pub record WroteTurns : Type 0 where
    pub status : result ≡ 0
    pub out_is : Gained out.written out'.written (turns_line turns)
    pub counts : CountsNothing out out'
    pub err_is : err' ≡ err

  pub record FailedTurns : Type 0 where
    pub status : result ≡ 5
    pub out_is : GainedPrefix out.written out'.written (turns_line turns)
    pub rose : Rose out.faults out'.faults
    pub unwanted : out'.wants ≡ out.wants
    pub err_is : err' ≡ err

  -- the line could not be made, or the output wanted memory
  pub record WantedTurns : Type 0 where
    pub out_is : (out' ≡ out) ⊎ OutWanted turns out out'
    pub said : Said 8 memory_line err err' result

  abbrev pub TellsTurns : Type 0
  TellsTurns = WroteTurns ⊎ FailedTurns ⊎ WantedTurns

-- The line of a trouble is said. One that names a key, or why areas are refused, is made first, and memory may be wanted for it.
abbrev pub TellsLine : Trouble → SinkSeen → SinkSeen → ℕ → Type 0
TellsLine (trouble.Config key) = Tells (status_of (trouble.Config key)) (line_of (trouble.Config key))
TellsLine (trouble.Ended (fault.Refused why)) =
    Tells (status_of (trouble.Ended (fault.Refused why))) (line_of (trouble.Ended (fault.Refused why)))
TellsLine t = Said (status_of t) (line_of t)

-- what `memory` may be said for: memory was wanted, or the line is made first, since it names turns, a key, or why areas are refused
abbrev pub MaySayMemory : Result (Unit {0}) Trouble → Type 0
MaySayMemory (Err trouble.Read) = ⊥
MaySayMemory (Err trouble.Begin) = ⊥
MaySayMemory (Err (trouble.Ended fault.Receive)) = ⊥
MaySayMemory (Err (trouble.Ended fault.Store)) = ⊥
MaySayMemory came = Unit {0}

-- Else the output stays, and the error stream gets the line of the trouble.
pub record TellsTrouble (t : Trouble) (out out' err err' : SinkSeen) (result : ℕ) : Type 0 where
  pub out_is : out' ≡ out
  pub told : TellsLine t err err' result

abbrev pub TellsWhat : ℕ → Result (Unit {0}) Trouble → (out out' err err' : SinkSeen) → ℕ → Type 0
TellsWhat turns (Ok x) = TellsTurns turns
TellsWhat turns (Err t) = TellsTrouble t

-- A node's run came to this, and said so. No count of its streams fell.
pub record Ends (w : NodeWordsView) (r : NodeRun) (result : ℕ) : Type 0 where
  pub came : Result (Unit {0}) Trouble
  pub comes : Comes w r.streams.before.input r.streams.after.input r.before r.after came
  pub tells : TellsWhat w.turns came r.streams.before.out r.streams.after.out r.streams.before.err r.streams.after.err result
  pub counts : KeepsCounts r.streams
