-- Clusters of a machine that adds, where to add nothing is to read the sum, and schedules in which a read is put in again.
use Rattle.std.specs.Prelude.{ℕ, List, [], ◌∷◌, ◌++◌}
use Rattle.raft_reads.specs.Examples.{adds_nothing}
use Rattle.raft_types.specs.declared.client.RaftInput.{RaftInput}
use Rattle.reads_safety.specs.Examples.{alone, eight_reads}
use Rattle.vst_base.specs.Examples.{counter}
use Rattle.vst_base.specs.declared.step.Step.{Step}
use Rattle.vst_base.specs.declared.step.Step.TheVariants as step
use Rattle.stacks.specs.Clusters.{ClusterOf, raft_cluster}
use Rattle.stacks.specs.Reads.{read_cluster}

abbrev pub counting : ClusterOf ℕ ℕ
counting = raft_cluster counter

abbrev pub reading : ClusterOf ℕ ℕ
reading = read_cluster counter adds_nothing

-- at a node that is up, and at one that is down
abbrev pub read_again : List (Step (RaftInput ℕ))
read_again = alone ++ step.In 0 eight_reads ∷ []

abbrev pub read_while_down : List (Step (RaftInput ℕ))
read_while_down = alone ++ step.Crash 0 ∷ step.In 0 eight_reads ∷ []
