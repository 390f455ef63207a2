-- A sink and a source that move at most two bytes in a call, and of which so many calls were made.
use Rattle.std.specs.Prelude.{ℕ, List, [], ◌∷◌}
use Rattle.outside_mem.specs.Sinks.{SinkState, SteadySinkState}
use Rattle.outside_mem.specs.Sources.{SourceState}

-- the third write fails, and the second and the third want memory
abbrev pub sink : ℕ → SinkState
sink calls = record { written = 1 ∷ []; most = 2; failing = 3 ∷ []; wanting = 2 ∷ 3 ∷ []; calls = calls; faults = 5; wants = 6 }

-- the third read fails
abbrev pub source : ℕ → SourceState
source calls = record { left = 7 ∷ 8 ∷ 9 ∷ []; most = 2; failing = 3 ∷ []; calls = calls; faults = 5 }

abbrev pub steady : List ℕ → ℕ → SteadySinkState
steady written wants = record { written = written; wants = wants }
