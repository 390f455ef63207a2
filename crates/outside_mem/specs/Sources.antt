-- What contracts see of a memory source, and what a read makes of it.
use Rattle.std.specs.Prelude.{ℕ, min, if◌then◌else◌, List, ◌++◌, length, take, drop}
use Rattle.outside.specs.declared.source.ReadOutcome.{ReadOutcome}
use Rattle.outside.specs.declared.source.ReadOutcome.TheVariants as read
use Rattle.outside.specs.Counting.{counted}
use Rattle.outside_mem.specs.Counts.{is_due}

pub record SourceState : Type 0 where
  pub left : List ℕ
  pub most : ℕ
  pub failing : List ℕ
  pub calls : ℕ
  pub faults : ℕ

-- what the next read comes to, into a buffer of this length
abbrev pub read_outcome : SourceState → ℕ → ReadOutcome
read_outcome source room =
    if is_due source.failing source.calls then read.Failed else read.Got (min (min room source.most) (length source.left))

-- the source after a read that came to this
abbrev pub after_read : SourceState → ReadOutcome → SourceState
after_read source (read.Got n) = record source { left = drop n source.left; calls = counted source.calls }
after_read source read.Failed = record source { calls = counted source.calls; faults = counted source.faults }

-- the buffer after a read of these bytes that came to this
abbrev pub filled : List ℕ → ReadOutcome → List ℕ → List ℕ
filled bytes (read.Got n) before = take n bytes ++ drop n before
filled bytes read.Failed before = before
