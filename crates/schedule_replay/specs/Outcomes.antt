-- What a replay from a source to a sink comes to. It is said of the rest of a text, before which some lines stand, by what
-- replay makes of a whole rest, and of the whole lines of one that broke off.
use Rattle.std.specs.Prelude.{◌≡◌, ◌≢◌, ◌⊎◌, ℕ, Bool, false, ◌+◌, ◌-◌, ◌<◌, ◌≤◌, List, [], ◌++◌, length}
use Rattle.std.specs.Prelude.{Option, Some, None, Result, Ok, Err, IfErr}
use Rattle.outside.specs.Counting.{Rose}
use Rattle.outside.specs.Wholes.{Gained, GainedPrefix}
use Rattle.line_reader.specs.declared.why.Why.{Why}
use Rattle.line_reader.specs.Lines.{decided, split_lines}
use Rattle.schedule_replay.specs.declared.done.Done.{Done}
use Rattle.schedule_replay.specs.declared.fault.ReplayFault.{ReplayFault}
use Rattle.schedule_replay.specs.declared.fault.ReplayFault.TheVariants as fault
use Rattle.line_reader.specs.Outcomes.{ReadsPast}
use Rattle.line_reader.specs.Readers.{ReaderView, HasRest}
use Rattle.stacks.specs.Plays.{Play}
use Rattle.schedule_replay.specs.Replaying.{Replayed}
use Rattle.schedule_replay.specs.Rests.{stack_so_far, stack_whole}

-- of a rest these bytes were given, and the others are left
pub record HasGiven (rest : List ℕ) (left' : Option (List ℕ)) (given : List ℕ) : Type 0 where
  pub others : List ℕ
  pub whole : rest ≡ given ++ others
  pub left_is : left' ≡ Some others

-- the whole rest was read, no line of it is refused, and the sink gained the trace and the image
pub record IsDone (whole : List ℕ → Replayed) (rest : List ℕ) (left' out out' : Option (List ℕ)) (done : Done) : Type 0 where
  pub ended : left' ≡ Some []
  pub taken : (whole rest).refused ≡ None
  pub counts : done ≡ (whole rest).counts
  pub written : Gained out out' (whole rest).out

-- a read failed after these bytes: none of their whole lines is refused, what stands after their last newline is not too
-- long yet, and the sink gained exactly their trace
pub record BrokeOff (whole so_far : List ℕ → Replayed) (rest : List ℕ) (left' out out' : Option (List ℕ)) : Type 0 where
  pub given : List ℕ
  pub gave : HasGiven rest left' given
  pub short : length (split_lines given).1 ≤ 4096
  pub taken : (so_far given).refused ≡ None
  pub written : Gained out out' (so_far given).out
  pub front : GainedPrefix out out' (whole rest).out

-- this line is the first that is refused, the sink gained the trace before it, and at most 4,096 bytes were given past the
-- byte that decided it
pub record IsRefused (whole : List ℕ → Replayed) (before : ℕ) (rest : List ℕ) (left' out out' : Option (List ℕ)) (line : ℕ) (why : Why)
    : Type 0 where
  pub refused : (whole rest).refused ≡ Some (line, why)
  pub written : Gained out out' (whole rest).out
  pub given : List ℕ
  pub gave : HasGiven rest left' given
  pub later : before < line
  pub ahead : length given ≤ decided (line - before) rest + 4096

-- what a replay answers of a rest before which so many lines stand
abbrev pub ComesTo : (List ℕ → Replayed) → (List ℕ → Replayed) → ℕ → List ℕ → Option (List ℕ) → Option (List ℕ) → Option (List ℕ)
    → Result Done ReplayFault → Type 0
ComesTo whole so_far before rest left' out out' (Ok done) = IsDone whole rest left' out out' done
ComesTo whole so_far before rest left' out out' (Err fault.Read) = BrokeOff whole so_far rest left' out out'
ComesTo whole so_far before rest left' out out' (Err (fault.Refused line why)) = IsRefused whole before rest left' out out' line why
ComesTo whole so_far before rest left' out out' (Err fault.Write) = GainedPrefix out out' (whole rest).out
ComesTo whole so_far before rest left' out out' (Err fault.Memory) = GainedPrefix out out' (whole rest).out

-- what was read is a part of the rest and at most 4,096 bytes more, and the sink gained what the whole lines of that part come to.
-- It may have gained more
pub record KeptUp (so_far : List ℕ → Replayed) (rest : List ℕ) (left' out out' : Option (List ℕ)) : Type 0 where
  pub early : List ℕ
  pub past : ReadsPast left' rest early
  pub more : List ℕ
  pub written : Gained out out' ((so_far early).out ++ more)

-- a failed read or write has its fault
abbrev pub HasFault : ℕ → ℕ → ℕ → ℕ → ReplayFault → Type 0
HasFault read read' write write' fault.Read = Rose read read'
HasFault read read' write write' fault.Write = Rose write write'
HasFault read read' write write' (fault.Refused line why) = Unit {0}
HasFault read read' write write' fault.Memory = Unit {0}

-- and no read fails once the end was met
abbrev pub HasCause : Bool → ℕ → ℕ → ℕ → ℕ → ReplayFault → Type 0
HasCause ended read read' write write' found = HasFault read read' write write' found × (found ≡ fault.Read → ended ≡ false)

-- a replay hides no fault of its sink: the sink's faults are as they were unless the replay answers a failed write, and its
-- wants are as they were unless the replay answers want of memory
abbrev pub KeepsSink : ℕ → ℕ → ℕ → ℕ → Result Done ReplayFault → Type 0
KeepsSink faults faults' wants wants' (Ok done) = (faults' ≡ faults) × (wants' ≡ wants)
KeepsSink faults faults' wants wants' (Err fault.Read) = (faults' ≡ faults) × (wants' ≡ wants)
KeepsSink faults faults' wants wants' (Err (fault.Refused line why)) = (faults' ≡ faults) × (wants' ≡ wants)
KeepsSink faults faults' wants wants' (Err fault.Write) = wants' ≡ wants
KeepsSink faults faults' wants wants' (Err fault.Memory) = faults' ≡ faults

-- what replaying the rest of a text comes to, as schedules of a stack play. Where the replay could not start, nothing was read or
-- written
pub record ReplaysRest {I O G : Type 0} (p : Play I O G) (r : ReaderView) (left left' : Option (List ℕ)) (read read' : ℕ)
    (out out' : Option (List ℕ)) (write write' wants wants' : ℕ) (result : Result Done ReplayFault) : Type 0 where
  pub told : (rest : List ℕ) → HasRest r left rest → ComesTo (stack_whole p r) (stack_so_far p r) r.number rest left' out out' result
  pub kept_up : ((left' ≡ left) × (out' ≡ out)) ⊎ ((rest : List ℕ) → HasRest r left rest → KeptUp (stack_so_far p r) rest left' out out')
  pub reads_quiet : result ≢ Err fault.Read → read' ≡ read
  pub fault : IfErr result (HasCause r.ended read read' write write')
  pub quiet : KeepsSink write write' wants wants' result
  pub reads : read ≤ read'
  pub writes : write ≤ write'
