-- One node of the key-value stack, act by act.
use Rattle.std.specs.Prelude.{ℕ, List, [], ◌∷◌, Option}
use Rattle.disk.specs.Disk.{Image, contents, may_become}
use Rattle.kv_machine.specs.Examples.{a, x}
use Rattle.kv_machine.specs.Kv.{kv}
use Rattle.kv_machine.specs.declared.cmd.KvCmd.{KvCmd}
use Rattle.kv_machine.specs.declared.cmd.KvCmd.TheVariants.{Put}
use Rattle.node_acts.specs.StateActs.{first_kept}
use Rattle.node_body.specs.Bodies.{body, body_of}
use Rattle.node_body.specs.Examples.{cluster, who_as}
use Rattle.raft_types.specs.declared.client.RaftInput.{RaftInput}
use Rattle.raft_xform.specs.Raft.{raft, raft_recovery}
use Rattle.vst_base.specs.declared.stack.StackId.TheVariants as stack
use Rattle.vst_base.specs.declared.step.Step.{Step}
use Rattle.vst_base.specs.declared.step.StepRefusal.{StepRefusal}
use Rattle.wire_messages.specs.KvBytes.{kv_command}
use Rattle.act_network.specs.ActRefusals.{act_refusal}
use Rattle.act_network.specs.ActRuns.{IsActRun, acts_run, image_of}
use Rattle.act_network.specs.declared.step.ActStep.{ActStep}
use Rattle.act_network.specs.declared.step.ActStep.TheVariants as act
use Rattle.act_disks.specs.NodeStores.{CanSave, node_stores}
use Rattle.act_disks.specs.Stores.{store_disks}

abbrev pub NodeSteps : Type 0
NodeSteps = List (ActStep (RaftInput KvCmd) Image)

abbrev pub node_image : NodeSteps → List (Step (RaftInput KvCmd))
node_image ss =
    image_of (raft 1 kv) (raft_recovery kv)
    (store_disks may_become (node_stores stack.KvRaft kv_command (λ n. who_as 0 1 cluster))) ss

-- what reads of its areas give after these steps
abbrev pub read_after : NodeSteps → Image
read_after ss =
    contents
    ((acts_run (raft 1 kv) (raft_recovery kv)
    (store_disks may_become (node_stores stack.KvRaft kv_command (λ n. who_as 0 1 cluster))) ss).disk 0).1

abbrev pub node_refusal : NodeSteps → ActStep (RaftInput KvCmd) Image → Option StepRefusal
node_refusal ss s =
    act_refusal (raft 1 kv)
    (acts_run (raft 1 kv) (raft_recovery kv)
    (store_disks may_become (node_stores stack.KvRaft kv_command (λ n. who_as 0 1 cluster))) ss) s

abbrev pub puts : RaftInput KvCmd
puts = record { client = 7; request = 1; cmd = Put a x }

-- it is elected, which takes four acts on its areas: a record and its sync, the gate and its sync; and then it is asked
abbrev pub asked : NodeSteps → NodeSteps
asked more = act.Tick 0 ∷ act.Act 0 ∷ act.Act 0 ∷ act.Act 0 ∷ act.Act 0 ∷ act.In 0 puts ∷ more

abbrev pub two_acts : NodeSteps
two_acts = act.Act 0 ∷ act.Act 0 ∷ []

abbrev pub three_acts : NodeSteps
three_acts = act.Act 0 ∷ act.Act 0 ∷ act.Act 0 ∷ []

-- the network of single acts takes these steps, of the key-value stack
abbrev pub NodeTakes : NodeSteps → Type 0
NodeTakes ss =
    IsActRun (raft 1 kv) (raft_recovery kv)
    (store_disks may_become (node_stores stack.KvRaft kv_command (λ n. who_as 0 1 cluster)))
    (CanSave stack.KvRaft kv_command (λ n. who_as 0 1 cluster)) ss

abbrev pub FirstFits : List ℕ → Type 0
FirstFits name = (body stack.KvRaft kv_command).Fits (body_of (who_as 0 1 name) (first_kept {C = KvCmd}))

-- areas of which nothing is left
abbrev pub nothing_left : Image
nothing_left = record { slot0 = []; slot1 = []; selector = [] }
