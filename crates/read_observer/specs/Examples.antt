-- Schedules that the definitions are computed on, with a machine that adds, where to add nothing is to read the sum.
use Rattle.std.specs.Prelude.{ℕ, List, [], ◌∷◌, ◌++◌}
use Rattle.vst_base.specs.declared.step.Step.{Step}
use Rattle.vst_base.specs.declared.step.Step.TheVariants as step
use Rattle.linearizability.specs.Examples.{asks}
use Rattle.raft_types.specs.declared.client.RaftInput.{RaftInput}
use Rattle.reads_safety.specs.Examples.{alone, eight_reads, five, nine_reads}

-- a node alone answers two reads behind one request
abbrev pub two_reads : List (Step (RaftInput ℕ))
two_reads = alone ++ step.In 0 nine_reads ∷ []

-- client 7 reads with the number of its request
abbrev pub reads_with_its_number : List (Step (RaftInput ℕ))
reads_with_its_number = step.In 0 five ∷ step.In 0 (asks 7 1 0) ∷ []

-- client 8 writes with the number of its read, at another node, which may have turned the read away
abbrev pub writes_with_its_number : List (Step (RaftInput ℕ))
writes_with_its_number = step.In 0 eight_reads ∷ step.Tick 0 ∷ step.In 1 (asks 8 1 5) ∷ []
