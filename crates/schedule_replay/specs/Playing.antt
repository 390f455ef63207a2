-- What reading and taking the steps of a schedule comes to. What is said of the rest of a text holds where the source tells.
use Rattle.std.specs.Prelude.{◌≡◌, ◌⊎◌, ℕ, Bool, false, true, ◌+◌, List, [], ◌∷◌, ◌++◌, length, Option, Some, None, Ok, Err}
use Rattle.vst_base.specs.declared.step.Step.{Step}
use Rattle.vst_base.specs.declared.step.Item.{Item}
use Rattle.vst_base.specs.declared.step.StepRefusal.{StepRefusal}
use Rattle.outside.specs.Wholes.{Gained}
use Rattle.line_reader.specs.declared.why.Why.{Why}
use Rattle.line_reader.specs.declared.read_fault.ReadFault.TheVariants as fault
use Rattle.line_reader.specs.Lines.{lines_of, whole_lines}
use Rattle.line_reader.specs.Readers.{ReaderView, HasRest}
use Rattle.line_reader.specs.Outcomes.{StandsAt, BreaksOff}
use Rattle.schedule_text.specs.Reading.{tells_next}
use Rattle.schedule_text.specs.Printing.{trace_text}
use Rattle.schedule_text.specs.Schedules.{script}
use Rattle.schedule_text.specs.Streams.{ReadsStep}
use Rattle.xform_stack.specs.Running.{HasRun, Progress}
use Rattle.xform_stack.specs.Systems.{Played}
use Rattle.schedule_replay.specs.declared.halt.Halt.{Halt}
use Rattle.schedule_replay.specs.declared.halt.Halt.TheVariants as halt
use Rattle.schedule_replay.specs.declared.tally.Tally.{Tally}
use Rattle.stacks.specs.Plays.{ImageTexts, Play, Texts, play_of}
use Rattle.schedule_replay.specs.Tallying.{tallied}
use Rattle.schedule_replay.specs.Replaying.{why_of, stop, taken}

module _ {R I O G : Type 0} (p : Played I O G) (follows : R → List (Step I) → Type 0) (progress : R → Progress I O)
    (f : List ℕ → Option I) where
  -- the next line that says a step is refused: by the grammar, or since its step is the first that the network refuses
  abbrev pub IsRefusedStep : List (Step I) → ReaderView → ReaderView → Option (List ℕ) → List ℕ → ℕ → Why → Type 0
  IsRefusedStep ss old new left' rest number why =
      ReadsStep f old new left' rest (Err (fault.Refused number why))
      ⊎ ((s : Step I) × (w : StepRefusal) × ReadsStep f old new left' rest (Ok s) × (number ≡ new.number)
      × (p.refused (ss ++ s ∷ []) ≡ Some (length ss, w)) × (why ≡ why_of w))

  -- after these steps one more was read and taken, or there is none, or it is refused and changed nothing
  abbrev pub TookStep : R → List (Step I) → List (Item I O) → ReaderView → ReaderView → Option (List ℕ) → Option (List ℕ) → Option Halt
      → Type 0
  TookStep r ss gone old new left left' None =
      (s : Step I) × HasRun p follows progress (ss ++ s ∷ []) gone r
      × ((rest : List ℕ) → HasRest old left rest → ReadsStep f old new left' rest (Ok s))
  TookStep r ss gone old new left left' (Some halt.End) =
      HasRun p follows progress ss gone r × ((rest : List ℕ) → HasRest old left rest → ReadsStep f old new left' rest (Err fault.End))
  TookStep r ss gone old new left left' (Some halt.Read) =
      HasRun p follows progress ss gone r × ((rest : List ℕ) → HasRest old left rest → ReadsStep f old new left' rest (Err fault.Read))
      × (old.ended ≡ false)
  TookStep r ss gone old new left left' (Some (halt.Refused number why)) =
      HasRun p follows progress ss gone r × ((rest : List ℕ) → HasRest old left rest → IsRefusedStep ss old new left' rest number why)

-- the steps ended since a read failed
abbrev pub is_failed_read : Halt → Bool
is_failed_read halt.End = false
is_failed_read halt.Read = true
is_failed_read (halt.Refused number why) = false

-- the part of a trace that was cleared was written and counted
pub record TraceWritten {I O : Type 0} (t : Texts I O) (gone : List (Item I O)) (out out' : Option (List ℕ)) (tally : Tally) : Type 0 where
  pub written : Gained out out' (trace_text t.input_text t.output_text gone)
  pub counted : tally ≡ tallied t.is_reply (record { inputs = 0; outputs = 0; replies = 0 }) gone

-- what clients saw since it was last written was written, counted and cleared
pub record Writes {R I O : Type 0} (follows : R → List (Step I) → Type 0) (progress : R → Progress I O) (t : Texts I O) (v u : R)
    (tally tally' : Tally) (out out' : Option (List ℕ)) : Type 0 where
  pub written : Gained out out' (trace_text t.input_text t.output_text (progress v).trace)
  pub forgets : progress u ≡ record (progress v) { trace = [] }
  pub stays : (ss : List (Step I)) → follows v ss → follows u ss
  pub counted : tally' ≡ tallied t.is_reply tally (progress v).trace

-- a line was read ahead, and nothing was written
pub record Waits {R : Type 0} (r : ReaderView) (v u : R) (tally tally' : Tally) (out out' : Option (List ℕ)) : Type 0 where
  pub told : tells_next r.ahead ≡ true
  pub same : u ≡ v
  pub counts : tally' ≡ tally
  pub nothing : out' ≡ out

-- where the steps of a rest end, these were taken
abbrev pub HaltsBy : {I O G : Type 0} → Play I O G → List (Step I) → ReaderView → ReaderView → Option (List ℕ) → List ℕ → Halt → Type 0
HaltsBy st ss old new left' rest halt.End =
    let sc = script old.most st.texts.input_of (old.number + 1) old.events (lines_of rest) in
    (left' ≡ Some []) × (stop st sc ≡ None) × (taken st sc ≡ ss)
HaltsBy st ss old new left' rest halt.Read =
    (part : List ℕ) × BreaksOff left' rest part
    × (let sc = script old.most st.texts.input_of (old.number + 1) old.events (whole_lines part) in
    (stop st sc ≡ None) × (taken st sc ≡ ss))
HaltsBy st ss old new left' rest (halt.Refused number why) =
    let sc = script old.most st.texts.input_of (old.number + 1) old.events (lines_of rest) in
    StandsAt old new left' rest number × (stop st sc ≡ Some (number, why)) × (taken st sc ≡ ss)

-- all steps of a rest were taken up to where they end, and their whole trace was written
pub record Halted {R I O G : Type 0} (p : Played I O G) (follows : R → List (Step I) → Type 0) (progress : R → Progress I O)
    (t : Texts I O) (i : ImageTexts G) (r : R) (tally : Tally) (old new : ReaderView) (left left' out out' : Option (List ℕ)) (h : Halt)
    : Type 0 where
  pub steps : List (Step I)
  pub gone : List (Item I O)
  pub ran : HasRun p follows progress steps gone r
  pub empty : (progress r).trace ≡ []
  pub written : TraceWritten t gone out out' tally
  pub halts : (rest : List ℕ) → HasRest old left rest → HaltsBy (play_of p t i) steps old new left' rest h
  pub front : (rest : List ℕ) → HasRest old left rest
      → (more : List (Step I))
      × (taken (play_of p t i) (script old.most t.input_of (old.number + 1) old.events (lines_of rest)) ≡ steps ++ more)
