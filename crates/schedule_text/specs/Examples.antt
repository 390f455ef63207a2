-- Readers of schedules of locks, after a header and after the next line.
use Rattle.std.specs.Prelude.{ℕ, List, [], Option, Result, codes, false, true}
use Rattle.app_text.specs.LockTexts.{input_of}
use Rattle.line_reader.specs.Readers.{ReaderView, fresh}
use Rattle.line_reader.specs.declared.read_fault.ReadFault.{ReadFault}
use Rattle.vst_base.specs.declared.lock.LockInput.{LockInput}
use Rattle.vst_base.specs.declared.net.Net.TheVariants as net
use Rattle.vst_base.specs.declared.stack.StackId.TheVariants as stack
use Rattle.vst_base.specs.declared.step.Step.{Step}
use Rattle.schedule_text.specs.Streams.{HeaderIsNear, ReadsHeader, ReadsStep, StepIsNear}
use Rattle.schedule_text.specs.declared.header.Header.{Header}
use Rattle.schedule_text.specs.declared.text_faults.TextFault.{TextFault}

-- so many lines were read, the last of them this, with so many events, and nothing is ahead
abbrev pub reader : ℕ → List ℕ → ℕ → ReaderView
reader number line events = record { ahead = []; line = line; number = number; most = 2000000; events = events; ended = false }

-- nothing was read before the end was met
abbrev pub ended : ReaderView
ended = record (reader 0 [] 0) { ended = true }

abbrev pub header : Header
header = record { net = net.Bag; stack = stack.Lock; nodes = 2 }

-- how a text opens, and what the next step after its header is, where the reader is this afterwards and the source has this left
abbrev pub opens : List ℕ → ReaderView → Option (List ℕ) → Result Header TextFault → Type 0
opens text new left r = ReadsHeader (fresh 2000000) new left text r

abbrev pub steps : List ℕ → ReaderView → Option (List ℕ) → Result (Step LockInput) ReadFault → Type 0
steps text new left r = ReadsStep input_of (reader 1 (codes "schedule 1 bag lock 2") 0) new left text r

-- how far was read past skipped lines of a text, before its header and after it
abbrev pub header_near : List ℕ → Option (List ℕ) → Type 0
header_near text left = HeaderIsNear (fresh 2000000) left text

abbrev pub step_near : List ℕ → Option (List ℕ) → Type 0
step_near text left = StepIsNear input_of (reader 1 (codes "schedule 1 bag lock 2") 0) left text
