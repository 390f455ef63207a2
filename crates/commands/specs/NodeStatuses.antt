-- What each status of a node's run says: one record for each. Told contents are optional; what is said of them holds where they are told.
use Rattle.std.specs.Prelude.{◌≡◌, ◌⊎◌, ℕ, List, Result, Ok, Err}
use Rattle.command_line.specs.AskedNodes.{NodeWordsView}
use Rattle.node_config.specs.declared.key.ConfigKey.{ConfigKey}
use Rattle.node_state.specs.declared.opening.Refusal.{Refusal}
use Rattle.outside.specs.Counting.{Rose}
use Rattle.outside.specs.Wholes.{Gained, GainedPrefix}
use Rattle.commands.specs.Lines.{memory_line}
use Rattle.commands.specs.Seen.{CountsNothing}
use Rattle.udp_node.specs.declared.fault.NodeFault.TheVariants as fault
use Rattle.commands.specs.NodeComing.{Comes}
use Rattle.commands.specs.NodeLines.{line_of, turns_line}
use Rattle.commands.specs.NodeSeen.{NodeRun}
use Rattle.commands.specs.NodeTelling.{MaySayMemory, OutWanted}
use Rattle.commands.specs.declared.trouble.Trouble.{Trouble}
use Rattle.commands.specs.declared.trouble.Trouble.TheVariants as trouble

-- a status of a node's run
abbrev pub IsNodeStatus : ℕ → Type 0
IsNodeStatus n = (n ≡ 0) ⊎ (n ≡ 3) ⊎ (n ≡ 4) ⊎ (n ≡ 5) ⊎ (n ≡ 6) ⊎ (n ≡ 7) ⊎ (n ≡ 8) ⊎ (n ≡ 9)

module _ (w : NodeWordsView) (r : NodeRun) where
  -- what it came to
  abbrev pub CameTo : Result (Unit {0}) Trouble → Type 0
  CameTo = Comes w r.streams.before.input r.streams.after.input r.before r.after

  -- whatever the status is, it came to something
  abbrev pub HasCome : Type 0
  HasCome = (came : Result (Unit {0}) Trouble) × CameTo came

  -- 0: all turns were taken, and the output gained their line
  pub record IsDone : Type 0 where
    pub served : CameTo (Ok tt)
    pub out : Gained r.streams.before.out.written r.streams.after.out.written (turns_line w.turns)
    pub err : r.streams.after.err ≡ r.streams.before.err
    pub quiet : CountsNothing r.streams.before.out r.streams.after.out

  -- 3, 4, 6, 7, 9: this trouble came, the error stream gained its line, and the output is as it was
  pub record EndsBy (t : Trouble) : Type 0 where
    pub came : CameTo (Err t)
    pub out : r.streams.after.out ≡ r.streams.before.out
    pub err : Gained r.streams.before.err.written r.streams.after.err.written (line_of t)
    pub quiet : CountsNothing r.streams.before.err r.streams.after.err

  abbrev pub IsConfigRefused : Type 0
  IsConfigRefused = (key : ConfigKey) × EndsBy (trouble.Config key)

  abbrev pub HasListeningFailed : Type 0
  HasListeningFailed = EndsBy trouble.Begin ⊎ EndsBy (trouble.Ended fault.Receive)

  abbrev pub AreAreasRefused : Type 0
  AreAreasRefused = (why : Refusal) × EndsBy (trouble.Ended (fault.Refused why))

  -- it came to what `memory` may be said for
  abbrev pub WantsMemory : Type 0
  WantsMemory = (came : Result (Unit {0}) Trouble) × CameTo came × MaySayMemory came

  -- a line that the run may say: that of the trouble that came, or that memory is wanted
  abbrev pub MaySay : List ℕ → Type 0
  MaySay line = ((t : Trouble) × CameTo (Err t) × (line ≡ line_of t)) ⊎ (WantsMemory × (line ≡ memory_line))

  -- the output is as it was, or, after the last turn, it wanted memory as it got the line of the turns
  abbrev pub WroteTurnsAtMost : Type 0
  WroteTurnsAtMost =
      (r.streams.after.out ≡ r.streams.before.out) ⊎ (CameTo (Ok tt) × OutWanted w.turns r.streams.before.out r.streams.after.out)

  -- a front of such a line was written
  pub record WasSaying : Type 0 where
    pub line : List ℕ
    pub may : MaySay line
    pub front : GainedPrefix r.streams.before.err.written r.streams.after.err.written line
    pub out : WroteTurnsAtMost

  -- 5: a write of the output failed, after the last turn
  pub record HasOutFailed : Type 0 where
    pub served : CameTo (Ok tt)
    pub front : GainedPrefix r.streams.before.out.written r.streams.after.out.written (turns_line w.turns)
    pub rose : Rose r.streams.before.out.faults r.streams.after.out.faults
    pub unwanted : r.streams.after.out.wants ≡ r.streams.before.out.wants
    pub err : r.streams.after.err ≡ r.streams.before.err

  -- or one of the error stream, as it got a line
  pub record HasErrFailed : Type 0 where
    pub saying : WasSaying
    pub rose : Rose r.streams.before.err.faults r.streams.after.err.faults
    pub unwanted : r.streams.after.err.wants ≡ r.streams.before.err.wants

  abbrev pub HasWriteFailed : Type 0
  HasWriteFailed = HasOutFailed ⊎ HasErrFailed

  -- the error stream gained the line that memory is wanted
  pub record HasSaidMemory : Type 0 where
    pub came : WantsMemory
    pub err : Gained r.streams.before.err.written r.streams.after.err.written memory_line
    pub unwanted : r.streams.after.err.wants ≡ r.streams.before.err.wants
    pub out : WroteTurnsAtMost

  -- or it wanted memory itself, as it got a line
  pub record HasErrWanted : Type 0 where
    pub saying : WasSaying
    pub rose : Rose r.streams.before.err.wants r.streams.after.err.wants

  -- a read failed, and the error stream wanted memory as it got the line of that
  pub record WantedAtRead : Type 0 where
    pub came : CameTo (Err trouble.Read)
    pub front : GainedPrefix r.streams.before.err.written r.streams.after.err.written (line_of trouble.Read)
    pub rose : Rose r.streams.before.err.wants r.streams.after.err.wants

  -- 8: memory was wanted. No write failed, and no read but where the error stream wanted memory for the line of it
  pub record IsOutOfMemory : Type 0 where
    pub said : HasSaidMemory ⊎ HasErrWanted
    pub reads : (r.streams.after.input.faults ≡ r.streams.before.input.faults) ⊎ WantedAtRead
    pub out : r.streams.after.out.faults ≡ r.streams.before.out.faults
    pub err : r.streams.after.err.faults ≡ r.streams.before.err.faults
