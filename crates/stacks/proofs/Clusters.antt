-- Each kind of cluster acts as the machine that it is a cluster of.
use Rattle.raft_safety.proofs.Ordering.{runs_are_linearizable}
use Rattle.vst_base.specs.Machines.{MachineMeaning}
use Rattle.stacks.specs.Clusters.{ActsAs, raft_cluster}

pub raft-acts : {S C O : Type 0} (m : MachineMeaning S C O) → ActsAs m (raft_cluster m)
raft-acts {S = S} {C = C} {O = O} m = record {
  allowed = λ n ss allowed. allowed;
  linearizable = λ n ss size allowed. runs_are_linearizable S C O m n ss (record { size = size; allowed = allowed });
}
