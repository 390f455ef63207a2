-- One machine explains what clients see of single acts of a Raft cluster, of any machine and over any disk that keeps states.
use Rattle.std.specs.Prelude.{ℕ, List}
use Rattle.act_network.specs.ActLaws.{EventsCanSave}
use Rattle.act_network.specs.ActRuns.{IsActRun, IsActSchedule}
use Rattle.act_network.specs.Disks.{Disks}
use Rattle.act_network.specs.Listing.{LeavesOut}
use Rattle.act_network.specs.declared.step.ActStep.{ActStep}
use Rattle.node_histories.specs.Views.{HasView}
use Rattle.linearizability.specs.Linearizable.{Seen}
use Rattle.raft_types.specs.Messages.{KeptView, IsClusterSize}
use Rattle.raft_types.specs.declared.client.RaftInput.{RaftInput}
use Rattle.raft_xform.specs.Raft.{raft, raft_recovery}
use Rattle.vst_base.specs.Machines.{MachineMeaning}
use Rattle.act_raft.specs.Explained.{HoldFirst, OneMachineExplains}

-- What was seen has each trace as a view that leaves some of its outputs out.
abbrev pub FewerOutputsAreAView : Type 0 → Type 0 → Type 0
FewerOutputsAreAView C O = (fewer all : Seen C O) → LeavesOut fewer all → HasView all fewer

module _ (S : Type 0) {C : Type 0} (O : Type 0) {D A X : Type 0} (d : Disks (KeptView C) D A X) (Holds : ℕ → KeptView C → D → Type 0)
    (CanSave : ℕ → KeptView C → KeptView C → Type 0) where
  -- each stop leaves what a crash may leave, and each new state can be saved
  abbrev pub ActsAreLinearizable : Type 0
  ActsAreLinearizable =
      (m : MachineMeaning S C O) (nodes : ℕ) → IsClusterSize nodes → HoldFirst m nodes d Holds → (ss : List (ActStep (RaftInput C) X)) →
      IsActRun (raft nodes m) (raft_recovery m) d CanSave ss → OneMachineExplains m nodes d ss

  -- the same where each event of whole runs makes a state that can be saved
  abbrev pub SchedulesAreLinearizable : Type 0
  SchedulesAreLinearizable =
      (m : MachineMeaning S C O) (nodes : ℕ) → IsClusterSize nodes → HoldFirst m nodes d Holds →
      EventsCanSave (raft nodes m) (raft_recovery m) CanSave → (ss : List (ActStep (RaftInput C) X)) →
      IsActSchedule (raft nodes m) (raft_recovery m) d ss → OneMachineExplains m nodes d ss
