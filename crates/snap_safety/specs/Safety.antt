-- The safety of a cluster with snapshots, over every spelling of snapshots, every machine and every run.
use Rattle.std.specs.Prelude.{◌≡◌, ℕ, ◌≤◌, List, [], ◌∷◌, ◌++◌, length, take, IsSome, IsTrue, Some}
use Rattle.net_semantics.specs.Steps.{Event, event_of}
use Rattle.net_semantics.specs.Worlds.{Packet}
use Rattle.vst_base.specs.Machines.{MachineMeaning}
use Rattle.vst_base.specs.declared.entry.Entry.{Entry}
use Rattle.vst_base.specs.declared.step.Step.{Step}
use Rattle.raft_free.specs.Events.{In}
use Rattle.raft_free.specs.Nodes.{FreeWorld}
use Rattle.raft_free.specs.Runs.{Moments}
use Rattle.raft_types.specs.declared.client.RaftInput.{RaftInput}
use Rattle.raft_types.specs.declared.client.RaftOut.{RaftOut}
use Rattle.linearizability.specs.Linearizable.{IsLinearizable}
use Rattle.lists.specs.Prefixes.{IsPrefix}
use Rattle.raft_snapshots.specs.Snapshots.{Install, InstallView, SnapMsg, SnapNode, Way, fits, snap_raft, so_far}
use Rattle.snap_safety.specs.Applied.{applied_by, executed_by, had_applied}
use Rattle.snap_safety.specs.Mirrors.{MirrorsMessage, MirrorsNode, snapshot_of}
use Rattle.snap_safety.specs.Runs.{IsRun, SnapWorld, seen, world_after}

-- each node is mirrored, and so is each packet that was sent
pub record Mirrors {S C O : Type 0} (m : MachineMeaning S C O) (way : Way S C O) (w : SnapWorld S C O) (v : FreeWorld C) : Type 0 where
  pub node : (i : ℕ) → MirrorsNode m way v.sent i (w.is_up i) (w.state i) (v.node i)
  pub sent : (p : Packet (SnapMsg C)) → In p w.packets → MirrorsMessage m way v.sent p.source p.destination p.content

-- two moments of a run with free choices over whole logs mirror these
pub record AreMirrored {S C O : Type 0} (m : MachineMeaning S C O) (way : Way S C O) (nodes : ℕ) (v w : SnapWorld S C O) : Type 0 where
  pub first : FreeWorld C
  pub second : FreeWorld C
  pub moments : Moments C nodes first second
  pub mirrors_first : Mirrors m way v first
  pub mirrors_second : Mirrors m way w second

-- in a run with free choices that mirrors this world, some node had applied this list at some moment, and none has applied more
pub record WasApplied {S C O : Type 0} (m : MachineMeaning S C O) (way : Way S C O) (nodes : ℕ) (w : SnapWorld S C O)
    (list : List (Entry C)) : Type 0 where
  pub at : FreeWorld C
  pub now : FreeWorld C
  pub moments : Moments C nodes at now
  pub mirrors : Mirrors m way w now
  pub who : ℕ
  pub is : list ≡ take (at.node who).applied (at.node who).log
  pub most : (i : ℕ) → (now.node i).applied ≤ length list

-- the snapshot of any entries can be read, with as many parts as there are entries
abbrev pub CanBeRead : {S C O : Type 0} → Way S C O → MachineMeaning S C O → Type 0
CanBeRead {C} way m = (es : List (Entry C)) → way.read (length es) (way.spell (snapshot_of m es)) ≡ Some (snapshot_of m es)

module _ (S C O : Type 0) where
  -- a cluster with snapshots does nothing that free choices over whole logs don't allow
  abbrev pub IsFree : Type 0
  IsFree =
      (way : Way S C O) (m : MachineMeaning S C O) (nodes : ℕ) (early late : List (Step (RaftInput C))) →
      IsRun way m nodes (early ++ late) →
      AreMirrored m way nodes (world_after way m nodes early) (world_after way m nodes (early ++ late))

  -- the applied list is that of the free run
  abbrev pub AppliedIsFree : Type 0
  AppliedIsFree =
      (way : Way S C O) (m : MachineMeaning S C O) (nodes : ℕ) (ss : List (Step (RaftInput C))) → IsRun way m nodes ss →
      WasApplied m way nodes (world_after way m nodes ss) (applied_by way m nodes ss)

  -- what is applied grows at its end alone, and so do the requests of it that are executed
  abbrev pub AppliedGrows : Type 0
  AppliedGrows =
      (way : Way S C O) (m : MachineMeaning S C O) (nodes : ℕ) (early late : List (Step (RaftInput C))) →
      IsRun way m nodes (early ++ late) →
      IsPrefix (applied_by way m nodes early) (applied_by way m nodes (early ++ late))

  abbrev pub ExecutedGrows : Type 0
  ExecutedGrows =
      (way : Way S C O) (m : MachineMeaning S C O) (nodes : ℕ) (early late : List (Step (RaftInput C))) →
      IsRun way m nodes (early ++ late) →
      IsPrefix (executed_by way m nodes early) (executed_by way m nodes (early ++ late))

  -- no entry is missing: what a node has just applied stands after no more than was applied before the event
  abbrev pub NoneIsMissing : Type 0
  NoneIsMissing =
      (way : Way S C O) (m : MachineMeaning S C O) (nodes : ℕ) (ss : List (Step (RaftInput C))) (s : Step (RaftInput C))
      (e : Event (SnapNode S C O) (RaftInput C) (RaftOut O) (SnapMsg C)) →
      IsRun way m nodes (ss ++ s ∷ []) → event_of (snap_raft way nodes m) (world_after way m nodes ss) s ≡ Some e →
      had_applied e.effect.state ≤ length (applied_by way m nodes ss)

  -- each node has applied a beginning of it, also one that was sent a snapshot: its machine and its sessions are what these
  -- entries make of the first ones
  abbrev pub EachMachineFollows : Type 0
  EachMachineFollows =
      (way : Way S C O) (m : MachineMeaning S C O) (nodes : ℕ) (ss : List (Step (RaftInput C))) (i : ℕ) → IsRun way m nodes ss →
      let s = (world_after way m nodes ss).state i in
      (s.applied ≤ length (applied_by way m nodes ss))
      × (snapshot_of m (take s.applied (applied_by way m nodes ss)) ≡ record { state = s.machine; sessions = s.sessions })

  -- where the snapshot of any entries can be read with as many parts as there are entries, none that came whole is dropped
  abbrev pub NoneIsDropped : Type 0
  NoneIsDropped =
      (way : Way S C O) (m : MachineMeaning S C O) (nodes : ℕ) (ss : List (Step (RaftInput C))) →
      CanBeRead way m → IsRun way m nodes ss →
      (p : Packet (SnapMsg C)) → In p (world_after way m nodes ss).packets → (q : InstallView) → p.content ≡ Install q →
      let s = (world_after way m nodes ss).state p.destination in
      IsTrue (fits s q) → IsTrue q.done → IsSome (way.read q.index (so_far s q))

  -- one machine, which takes the executed requests in their order, explains what clients see
  abbrev pub RunsAreLinearizable : Type 0
  RunsAreLinearizable =
      (way : Way S C O) (m : MachineMeaning S C O) (nodes : ℕ) (ss : List (Step (RaftInput C))) → IsRun way m nodes ss →
      IsLinearizable m (executed_by way m nodes ss) (seen way m nodes ss)
