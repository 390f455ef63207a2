-- What a cluster has applied, by what each node notes of its last event, and which of it was executed.
use Rattle.std.specs.Prelude.{ℕ, ◌-◌, List, [], ◌∷◌, ◌++◌, length, take, Option, Some, None}
use Rattle.net_semantics.specs.Steps.{Event, event_of, next}
use Rattle.net_semantics.specs.Worlds.{first_world}
use Rattle.vst_base.specs.Machines.{MachineMeaning}
use Rattle.vst_base.specs.declared.entry.Entry.{Entry}
use Rattle.vst_base.specs.declared.step.Step.{Step}
use Rattle.raft_clients.specs.Executed.{executed, requests}
use Rattle.raft_types.specs.declared.client.RaftInput.{RaftInput}
use Rattle.raft_types.specs.declared.client.RaftOut.{RaftOut}
use Rattle.raft_snapshots.specs.Snapshots.{SnapMsg, SnapNode, Way, snap_raft, snap_recovery}
use Rattle.raft_safety.specs.Applied.{longer}
use Rattle.snap_safety.specs.Runs.{SnapWorld}

module _ {S C O : Type 0} where
  -- how much a node had applied before the entries that its last event applied
  abbrev pub had_applied : SnapNode S C O → ℕ
  had_applied s = s.applied - length s.more.just

  -- the longer of a list and of what a node has applied: as much of the list as it had applied, and what it has just applied
  abbrev pub grown : List (Entry C) → SnapNode S C O → List (Entry C)
  grown best s = longer best (take (had_applied s) best ++ s.more.just)

  abbrev pub grown_by : List (Entry C) → Option (Event (SnapNode S C O) (RaftInput C) (RaftOut O) (SnapMsg C)) → List (Entry C)
  grown_by best None = best
  grown_by best (Some e) = grown best e.effect.state

module _ {S C O : Type 0} (way : Way S C O) (m : MachineMeaning S C O) (nodes : ℕ) where
  -- by each step, of the node at which it is an event
  abbrev pub applied_from : SnapWorld S C O → List (Entry C) → List (Step (RaftInput C)) → List (Entry C)
  applied_from w best [] = best
  applied_from w best (s ∷ ss) =
      applied_from (next (snap_raft way nodes m) snap_recovery w s) (grown_by best (event_of (snap_raft way nodes m) w s)) ss

  abbrev pub applied_by : List (Step (RaftInput C)) → List (Entry C)
  applied_by ss = applied_from (first_world (snap_raft way nodes m)) [] ss

  -- the requests of it that were executed, in order
  abbrev pub executed_by : List (Step (RaftInput C)) → List (RaftInput C)
  executed_by ss = executed (requests (applied_by ss))
