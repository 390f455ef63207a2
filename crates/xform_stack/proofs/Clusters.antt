-- What a whole run of a cluster comes to.
use Rattle.std.specs.Prelude.{◌≡◌, ℕ, List, None, Result, Ok, Err, IfOk, OnOk}
use Rattle.linearizability.specs.Linearizable.{IsLinearizable}
use Rattle.net_semantics.specs.Runs.{first_refused}
use Rattle.raft_safety.specs.Applied.{executed_by}
use Rattle.raft_safety.specs.Runs.{seen}
use Rattle.raft_safety.specs.Safety.{RunsAreLinearizable}
use Rattle.raft_types.specs.Messages.{IsClusterSize}
use Rattle.raft_types.specs.declared.client.RaftInput.{RaftInput}
use Rattle.raft_types.specs.declared.client.RaftOut.{RaftOut}
use Rattle.raft_xform.specs.Raft.{raft, raft_recovery}
use Rattle.vst_base.specs.Machines.{MachineMeaning}
use Rattle.vst_base.specs.declared.step.Step.{Step}
use Rattle.xform_stack.specs.Systems.{cluster_of}
use Rattle.xform_stack.specs.declared.ran.Ran.{Ran}

-- what a run came to is linearizable by its image
pub if-linearizable : {S C O F : Type 0} (m : MachineMeaning S C O) (nodes : ℕ) (ss : List (Step (RaftInput C))) (r : Result (Ran (RaftInput C) (RaftOut O) (RaftInput C)) F) → RunsAreLinearizable S C O → IsClusterSize nodes
    → OnOk r (first_refused (cluster_of m nodes).net (raft nodes m) (raft_recovery m) ss ≡ None) → IfOk r (λ ran. ran.trace ≡ seen m nodes ss) → IfOk r (λ ran. ran.image ≡ executed_by m nodes ss)
    → IfOk r (λ ran. IsLinearizable m ran.image ran.trace)
if-linearizable m nodes ss (Ok ran) laws size allowed trace image = rw (trace, image) (laws m nodes ss (record { size = size; allowed = allowed }))
if-linearizable m nodes ss (Err x) laws size allowed trace image = tt
