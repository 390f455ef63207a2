-- Runs of a cluster with snapshots, on a network that loses and copies packets, and whose nodes stop and start again.
use Rattle.std.specs.Prelude.{ℕ, List}
use Rattle.net_semantics.specs.Runs.{IsAllowed, run, trace}
use Rattle.net_semantics.specs.Worlds.{World}
use Rattle.vst_base.specs.Machines.{MachineMeaning}
use Rattle.vst_base.specs.declared.net.Net.TheVariants as net
use Rattle.vst_base.specs.declared.step.Item.{Item}
use Rattle.vst_base.specs.declared.step.Step.{Step}
use Rattle.raft_types.specs.declared.client.RaftInput.{RaftInput}
use Rattle.raft_types.specs.declared.client.RaftOut.{RaftOut}
use Rattle.raft_snapshots.specs.Snapshots.{SnapKept, SnapMsg, SnapNode, Way, snap_raft, snap_recovery}

abbrev pub SnapWorld : Type 0 → Type 0 → Type 0 → Type 0
SnapWorld S C O = World (SnapNode S C O) (SnapKept S C O) (SnapMsg C)

module _ {S C O : Type 0} (way : Way S C O) (m : MachineMeaning S C O) (nodes : ℕ) where
  -- the network allows the schedule
  abbrev pub IsRun : List (Step (RaftInput C)) → Type 0
  IsRun ss = IsAllowed net.Fail (snap_raft way nodes m) snap_recovery ss

  -- the world after the schedule, and what clients saw by then
  abbrev pub world_after : List (Step (RaftInput C)) → SnapWorld S C O
  world_after ss = run (snap_raft way nodes m) snap_recovery ss

  abbrev pub seen : List (Step (RaftInput C)) → List (Item (RaftInput C) (RaftOut O))
  seen ss = trace (snap_raft way nodes m) snap_recovery ss
