-- What contracts see of memory sinks, and what a write makes of them.
use Rattle.std.specs.Prelude.{◌≡◌, ℕ, min, true, false, List, ◌++◌, length, take}
use Rattle.outside.specs.declared.sink.WriteOutcome.{WriteOutcome}
use Rattle.outside.specs.declared.sink.WriteOutcome.TheVariants as write
use Rattle.outside.specs.Counting.{counted}
use Rattle.outside_mem.specs.Counts.{is_due}

pub record SinkState : Type 0 where
  pub written : List ℕ
  pub most : ℕ
  pub failing : List ℕ
  pub wanting : List ℕ
  pub calls : ℕ
  pub faults : ℕ
  pub wants : ℕ

-- whether the next write of so many bytes may come to this: a failure at the calls that are to fail alone,
-- and want of memory at those that are to want it, and wherever the bytes cannot be kept
abbrev pub MayAnswer : SinkState → ℕ → WriteOutcome → Type 0
MayAnswer sink size (write.Took n) =
    (is_due sink.failing sink.calls ≡ false) × (is_due sink.wanting sink.calls ≡ false) × (n ≡ min size sink.most)
MayAnswer sink size write.Failed = is_due sink.failing sink.calls ≡ true
MayAnswer sink size write.Memory = is_due sink.failing sink.calls ≡ false

-- the sink after a write of this piece that came to this
abbrev pub after_write : SinkState → List ℕ → WriteOutcome → SinkState
after_write sink piece (write.Took n) = record sink { written = sink.written ++ take n piece; calls = counted sink.calls }
after_write sink piece write.Failed = record sink { calls = counted sink.calls; faults = counted sink.faults }
after_write sink piece write.Memory = record sink { calls = counted sink.calls; wants = counted sink.wants }

pub record SteadySinkState : Type 0 where
  pub written : List ℕ
  pub wants : ℕ

-- a steady sink after a write of this piece that came to this: it takes the whole piece, or wants memory for it
abbrev pub WritesSteadily : SteadySinkState → SteadySinkState → List ℕ → WriteOutcome → Type 0
WritesSteadily old new piece (write.Took n) = (n ≡ length piece) × (new ≡ record old { written = old.written ++ piece })
WritesSteadily old new piece write.Failed = ⊥
WritesSteadily old new piece write.Memory = new ≡ record old { wants = counted old.wants }
