-- What clients of a cluster see whose nodes stop between any two acts on their areas, which they save and open as real nodes do.
use Rattle.std.specs.Prelude.{ℕ, List}
use Rattle.disk.specs.Between.{Crash}
use Rattle.disk.specs.Disk.{Image}
use Rattle.node_acts.specs.StateActs.{first_kept}
use Rattle.node_body.specs.Bodies.{body, body_of}
use Rattle.node_body.specs.declared.who.Who.{Who}
use Rattle.raft_types.specs.Messages.{IsClusterSize}
use Rattle.raft_types.specs.declared.client.RaftInput.{RaftInput}
use Rattle.raft_xform.specs.Raft.{raft, raft_recovery}
use Rattle.vst_base.specs.Machines.{MachineMeaning}
use Rattle.vst_base.specs.declared.stack.StackId.{StackId}
use Rattle.wire_fields.specs.Formats.{Format}
use Rattle.act_network.specs.ActRuns.{IsActRun}
use Rattle.act_network.specs.declared.step.ActStep.{ActStep}
use Rattle.act_raft.specs.Explained.{OneMachineExplains}
use Rattle.act_disks.specs.NodeStores.{CanSave, FoundFits, node_stores}
use Rattle.act_disks.specs.Stores.{store_disks}

module _ {C : Type 0} (crash : Crash) (S O : Type 0) (s : StackId) (f : Format C) where
  -- Of any machine, with any names of the nodes: the first state has bytes, what is found in an old slot has, and each new state can be
  -- saved.
  abbrev pub NodesAreLinearizable : Type 0
  NodesAreLinearizable =
      (m : MachineMeaning S C O) (nodes : ℕ) (who : ℕ → Who) → IsClusterSize nodes →
      ((n : ℕ) → (body s f).Fits (body_of (who n) (first_kept {C = C}))) → FoundFits s f who → (ss : List (ActStep (RaftInput C) Image)) →
      IsActRun (raft nodes m) (raft_recovery m) (store_disks crash (node_stores s f who)) (CanSave s f who) ss →
      OneMachineExplains m nodes (store_disks crash (node_stores s f who)) ss
