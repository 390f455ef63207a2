-- Counts of faults after a read or a write.
use Rattle.std.specs.Prelude.{ℕ}
use Rattle.outside.specs.Counting.{counted}
use Rattle.outside.specs.declared.source.ReadOutcome.{ReadOutcome}
use Rattle.outside.specs.declared.source.ReadOutcome.TheVariants as read
use Rattle.outside.specs.declared.sink.WriteOutcome.{WriteOutcome}
use Rattle.outside.specs.declared.sink.WriteOutcome.TheVariants as write

-- a source's faults after a read that came to this
abbrev pub after_read : ℕ → ReadOutcome → ℕ
after_read faults (read.Got n) = faults
after_read faults read.Failed = counted faults

-- a sink's faults after a write that came to this
abbrev pub after_write : ℕ → WriteOutcome → ℕ
after_write faults (write.Took n) = faults
after_write faults write.Failed = counted faults
after_write faults write.Memory = faults
