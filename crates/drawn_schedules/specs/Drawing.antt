-- What drawing a schedule comes to, by what replay makes of its text. Of the picture it says nothing.
use Rattle.std.specs.Prelude.{◌≡◌, ℕ, List, None, Some, Result, Ok, Err}
use Rattle.outside.specs.Counting.{Rose}
use Rattle.commands.specs.Seen.{CountsNothing, SinkSeen}
use Rattle.schedule_replay.specs.Replaying.{Replayed}
use Rattle.schedule_replay.specs.Replays.{replayed}
use Rattle.schedule_replay.specs.declared.fault.ReplayFault.{ReplayFault}
use Rattle.schedule_replay.specs.declared.fault.ReplayFault.TheVariants as fault

-- where a line is said to be refused, it is the first that replay refuses, and for that cause
abbrev pub IsItsRefusal : Replayed → ReplayFault → Type 0
IsItsRefusal r (fault.Refused line why) = r.refused ≡ Some (line, why)
IsItsRefusal r fault.Read = Unit {0}
IsItsRefusal r fault.Write = Unit {0}
IsItsRefusal r fault.Memory = Unit {0}

-- a text is drawn only where replay refuses no line of it
abbrev pub DrawsTo : List ℕ → Result (Unit {0}) ReplayFault → Type 0
DrawsTo bytes (Ok done) = (replayed bytes).refused ≡ None
DrawsTo bytes (Err found) = IsItsRefusal (replayed bytes) found

-- nothing is written where a line is refused or a read failed, and no fault of the sink is hidden
abbrev pub Writes : SinkSeen → SinkSeen → Result (Unit {0}) ReplayFault → Type 0
Writes before after (Ok done) = CountsNothing before after
Writes before after (Err fault.Read) = after ≡ before
Writes before after (Err (fault.Refused line why)) = after ≡ before
Writes before after (Err fault.Write) = Rose before.faults after.faults × (after.wants ≡ before.wants)
Writes before after (Err fault.Memory) = after.faults ≡ before.faults
