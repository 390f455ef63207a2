use Rattle.std.proofs.Common.{◌≡◌, ℕ, ◌++◌, List, length}
use Rattle.outside.specs.Wholes.{Gained, GainedPrefix}
use Rattle.outside.proofs.whole.write_all.Given as goal

-- what is written and what is left are all the bytes
abbrev pub invariant-loop-rest : goal.invariant-loop-rest
invariant-loop-rest g l =
    let k = g.K.Sink in
    record {
      written : (done : List ℕ) × (l.bytes ≡ done ++ l.rest) × Gained (k.written l.initial.sink) (k.written l.sink) done;
      front : GainedPrefix (k.written l.initial.sink) (k.written l.sink) l.bytes;
      faults : k.faults l.sink ≡ k.faults l.initial.sink;
      wants : k.wants l.sink ≡ k.wants l.initial.sink;
    }

abbrev pub decreases-loop-rest : goal.decreases-loop-rest
decreases-loop-rest g l = length l.rest
