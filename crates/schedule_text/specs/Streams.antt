-- What reading the header or a step of a schedule comes to. What is said of the rest of a text holds where the source tells.
use Rattle.std.specs.Prelude.{◌≡◌, ℕ, ◌+◌, List, [], Option, Some, false, Result, Ok, Err}
use Rattle.outside.specs.Counting.{Rose}
use Rattle.vst_base.specs.declared.step.Step.{Step}
use Rattle.line_reader.specs.Lines.{lines_of, whole_lines}
use Rattle.line_reader.specs.Readers.{ReaderView}
use Rattle.line_reader.specs.Outcomes.{Uses, EndsAll, StandsAt, BreaksOff, ReadsPast}
use Rattle.line_reader.specs.declared.read_fault.ReadFault.{ReadFault}
use Rattle.line_reader.specs.declared.read_fault.ReadFault.TheVariants as fault
use Rattle.line_reader.specs.declared.why.Why.TheVariants as why
use Rattle.schedule_text.specs.declared.header.Header.{Header}
use Rattle.schedule_text.specs.declared.text_faults.TextFault.{TextFault}
use Rattle.schedule_text.specs.declared.text_faults.TextFault.TheVariants as text
use Rattle.schedule_text.specs.Schedules.{Opened, EndedAt, opening, opening_refusal, script, no_steps, refused_script, with_step}

-- why a text is not read whose next line, of this number, was not. One that ends too early is refused at that line
abbrev pub text_fault : ℕ → ReadFault → TextFault
text_fault next fault.End = text.Refused next why.Header
text_fault next fault.Read = text.Read
text_fault next fault.Memory = text.Memory
text_fault next (fault.Refused number w) = text.Refused number w

-- a failed read has its fault, and does not come once the end was met
abbrev pub HasHeaderCause : ReaderView → ℕ → ℕ → TextFault → Type 0
HasHeaderCause old faults faults' text.Read = Rose faults faults' × (old.ended ≡ false)
HasHeaderCause old faults faults' text.Memory = Unit {0}
HasHeaderCause old faults faults' (text.Refused number w) = Unit {0}

-- how the rest of a text opens
abbrev pub ReadsHeader : ReaderView → ReaderView → Option (List ℕ) → List ℕ → Result Header TextFault → Type 0
ReadsHeader old new left' rest (Ok h) =
    (used : List ℕ) × Uses old new left' rest used × StandsAt old new left' rest new.number × (opening old.most (old.number + 1) (lines_of used) ≡ Opened h (new.number + 1) [])
ReadsHeader old new left' rest (Err (text.Refused number w)) =
    StandsAt old new left' rest number × (opening_refusal (opening old.most (old.number + 1) (lines_of rest)) ≡ Some (number, w))
ReadsHeader old new left' rest (Err text.Read) =
    (part : List ℕ) × BreaksOff left' rest part × (number : ℕ) × (opening old.most (old.number + 1) (whole_lines part) ≡ EndedAt number)
ReadsHeader old new left' rest (Err text.Memory) = Unit {0}

-- the next step of the rest of a text after its header
abbrev pub ReadsStep : {I : Type 0} → (List ℕ → Option I) → ReaderView → ReaderView → Option (List ℕ) → List ℕ → Result (Step I) ReadFault → Type 0
ReadsStep f old new left' rest (Ok s) =
    (used : List ℕ) × Uses old new left' rest used × StandsAt old new left' rest new.number
    × (script old.most f (old.number + 1) old.events (lines_of used) ≡ with_step new.number s no_steps)
ReadsStep f old new left' rest (Err fault.End) =
    EndsAll new left' × (script old.most f (old.number + 1) old.events (lines_of rest) ≡ no_steps)
ReadsStep f old new left' rest (Err (fault.Refused number w)) =
    StandsAt old new left' rest number × (script old.most f (old.number + 1) old.events (lines_of rest) ≡ refused_script number w)
ReadsStep f old new left' rest (Err fault.Read) =
    (part : List ℕ) × BreaksOff left' rest part × (script old.most f (old.number + 1) old.events (whole_lines part) ≡ no_steps)
ReadsStep f old new left' rest (Err fault.Memory) = Unit {0}

-- at most 4,096 bytes were read past a part whose whole lines are all skipped: before the header, or before the next step
abbrev pub HeaderIsNear : ReaderView → Option (List ℕ) → List ℕ → Type 0
HeaderIsNear old left' rest =
    (early : List ℕ) × ReadsPast left' rest early × (number : ℕ) × (opening old.most (old.number + 1) (whole_lines early) ≡ EndedAt number)

abbrev pub StepIsNear : {I : Type 0} → (List ℕ → Option I) → ReaderView → Option (List ℕ) → List ℕ → Type 0
StepIsNear f old left' rest =
    (early : List ℕ) × ReadsPast left' rest early × (script old.most f (old.number + 1) old.events (whole_lines early) ≡ no_steps)
