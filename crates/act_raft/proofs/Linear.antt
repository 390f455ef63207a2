-- One machine explains what clients see of single acts.
use Rattle.std.proofs.Common.{ℕ, List, refl, sym, subst}
use Rattle.act_network.proofs.Saving.{schedules_are_events}
use Rattle.act_network.proofs.Stepping.{acts_are_events}
use Rattle.act_network.specs.ActLaws.{IsExplained}
use Rattle.act_network.specs.ActRuns.{image_of, listed_trace}
use Rattle.act_network.specs.Disks.{Disks, DiskLaws}
use Rattle.act_network.specs.Noting.{noted}
use Rattle.act_network.specs.declared.step.ActStep.{ActStep}
use Rattle.node_histories.proofs.Showing.{less_is_explained}
use Rattle.node_histories.specs.Views.{HasView}
use Rattle.raft_safety.proofs.Ordering.{runs_are_linearizable}
use Rattle.raft_safety.specs.Applied.{executed_by}
use Rattle.raft_safety.specs.Runs.{seen}
use Rattle.raft_types.specs.Messages.{KeptView, IsClusterSize}
use Rattle.raft_types.specs.declared.client.RaftInput.{RaftInput}
use Rattle.raft_xform.specs.Raft.{raft, raft_recovery}
use Rattle.vst_base.specs.Machines.{MachineMeaning}
use Rattle.act_raft.proofs.Fewer.{fewer_outputs_are_a_view}
use Rattle.act_raft.proofs.Noting.{notes_are_a_view}
use Rattle.act_raft.specs.Explained.{OneMachineExplains}
use Rattle.act_raft.specs.RaftLaws.{ActsAreLinearizable, SchedulesAreLinearizable}

module _ {S C O D A X : Type 0} (m : MachineMeaning S C O) (nodes : ℕ) (size : IsClusterSize nodes) (d : Disks (KeptView C) D A X) (ss : List (ActStep (RaftInput C) X)) where
  abbrev order : List (RaftInput C)
  order = executed_by m nodes (image_of (raft nodes m) (raft_recovery m) d ss)

  explained : IsExplained (raft nodes m) (raft_recovery m) d ss → OneMachineExplains m nodes d ss
  explained e =
      let all = runs_are_linearizable S C O m nodes (image_of (raft nodes m) (raft_recovery m) d ss) (record { size = size; allowed = e.allowed }) in
      let view : HasView (seen m nodes (image_of (raft nodes m) (raft_recovery m) d ss)) (noted (raft nodes m) (raft_recovery m) d ss) =
      subst (λ zs. HasView zs (noted (raft nodes m) (raft_recovery m) d ss)) (sym e.trace_is) (notes_are_a_view (raft nodes m) (raft_recovery m) d ss) in
      record {
        run = record { size = size; allowed = e.allowed };
        leaves_out = e.leaves_out;
        view = view;
        listed_explained = less_is_explained S C O m order (seen m nodes (image_of (raft nodes m) (raft_recovery m) d ss)) (listed_trace (raft nodes m) (raft_recovery m) d ss)
            (fewer_outputs_are_a_view C O (listed_trace (raft nodes m) (raft_recovery m) d ss) (seen m nodes (image_of (raft nodes m) (raft_recovery m) d ss)) e.leaves_out) all;
        noted_explained = less_is_explained S C O m order (seen m nodes (image_of (raft nodes m) (raft_recovery m) d ss)) (noted (raft nodes m) (raft_recovery m) d ss) view all;
      }

pub acts_are_linearizable : {C D A X : Type 0} (S O : Type 0) (d : Disks (KeptView C) D A X) (CanSave : ℕ → KeptView C → KeptView C → Type 0) (laws : DiskLaws d CanSave) →
    ActsAreLinearizable S O d laws.Holds CanSave
acts_are_linearizable S O d CanSave laws m nodes size fresh ss taken =
    explained m nodes size d ss
    (acts_are_events _ _ _ _ d CanSave laws (raft nodes m) (raft_recovery m) (record { fresh = fresh; keeps = λ n k. refl }) ss taken)

pub schedules_are_linearizable : {C D A X : Type 0} (S O : Type 0) (d : Disks (KeptView C) D A X) (CanSave : ℕ → KeptView C → KeptView C → Type 0) (laws : DiskLaws d CanSave) →
    SchedulesAreLinearizable S O d laws.Holds CanSave
schedules_are_linearizable S O d CanSave laws m nodes size fresh can ss allowed =
    explained m nodes size d ss
    (schedules_are_events _ _ _ _ d CanSave laws (raft nodes m) (raft_recovery m) (record { fresh = fresh; keeps = λ n k. refl }) can ss allowed)
