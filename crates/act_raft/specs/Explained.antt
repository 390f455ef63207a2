-- What clients of a Raft cluster see of single acts, explained by one machine.
use Rattle.std.specs.Prelude.{ℕ, List}
use Rattle.act_network.specs.ActRuns.{image_of, listed_trace}
use Rattle.act_network.specs.Disks.{Disks}
use Rattle.act_network.specs.Listing.{LeavesOut}
use Rattle.act_network.specs.Noting.{noted}
use Rattle.act_network.specs.declared.step.ActStep.{ActStep}
use Rattle.linearizability.specs.Linearizable.{IsLinearizable}
use Rattle.node_histories.specs.Views.{HasView}
use Rattle.raft_safety.specs.Applied.{executed_by}
use Rattle.raft_safety.specs.Runs.{IsRun, seen}
use Rattle.raft_types.specs.Messages.{KeptView}
use Rattle.raft_types.specs.declared.client.RaftInput.{RaftInput}
use Rattle.raft_xform.specs.Raft.{raft, raft_recovery}
use Rattle.vst_base.specs.Machines.{MachineMeaning}

module _ {S C O D A X : Type 0} (m : MachineMeaning S C O) (nodes : ℕ) (d : Disks (KeptView C) D A X) where
  -- The run of whole events is one of Raft. What clients saw is its trace with outputs left out; what they noted at the moments of single
  -- acts is a view of it. And one machine, which takes the requests that this run executes, in their order, explains both.
  pub record OneMachineExplains (ss : List (ActStep (RaftInput C) X)) : Type 0 where
    pub run : IsRun m nodes (image_of (raft nodes m) (raft_recovery m) d ss)
    pub leaves_out : LeavesOut (listed_trace (raft nodes m) (raft_recovery m) d ss)
        (seen m nodes (image_of (raft nodes m) (raft_recovery m) d ss))
    pub view : HasView (seen m nodes (image_of (raft nodes m) (raft_recovery m) d ss)) (noted (raft nodes m) (raft_recovery m) d ss)
    pub listed_explained : IsLinearizable m (executed_by m nodes (image_of (raft nodes m) (raft_recovery m) d ss))
        (listed_trace (raft nodes m) (raft_recovery m) d ss)
    pub noted_explained : IsLinearizable m (executed_by m nodes (image_of (raft nodes m) (raft_recovery m) d ss))
        (noted (raft nodes m) (raft_recovery m) d ss)

  -- at first the areas hold what first states keep
  abbrev pub HoldFirst : (ℕ → KeptView C → D → Type 0) → Type 0
  HoldFirst Holds = (n : ℕ) → Holds n ((raft_recovery m).keep ((raft nodes m).init n)) (d.fresh n)
