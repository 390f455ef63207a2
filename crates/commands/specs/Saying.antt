-- What saying a line on the error stream comes to.
use Rattle.std.specs.Prelude.{◌≡◌, ◌⊎◌, ℕ, List}
use Rattle.outside.specs.Counting.{Rose}
use Rattle.outside.specs.Wholes.{Gained, GainedPrefix}
use Rattle.commands.specs.Lines.{memory_line}
use Rattle.commands.specs.Seen.{CountsNothing, SinkSeen}

-- what writing a line on the error stream comes to: the whole line, and the status that it was written for; or a front of it, and
-- 5 where a write failed, 8 where one wanted memory
abbrev pub Said : ℕ → List ℕ → SinkSeen → SinkSeen → ℕ → Type 0
Said status line before after result =
    ((result ≡ status) × Gained before.written after.written line × CountsNothing before after)
    ⊎ ((result ≡ 5) × GainedPrefix before.written after.written line × Rose before.faults after.faults × (after.wants ≡ before.wants))
    ⊎ ((result ≡ 8) × GainedPrefix before.written after.written line × (after.faults ≡ before.faults) × Rose before.wants after.wants)

-- the line is said; or, where it cannot be made, that memory is wanted
abbrev pub Tells : ℕ → List ℕ → SinkSeen → SinkSeen → ℕ → Type 0
Tells status line before after result = Said status line before after result ⊎ Said 8 memory_line before after result
