-- What holds of a cluster with reads, over every run.
use Rattle.std.specs.Prelude.{◌≡◌, ℕ, ◌≤◌, List, ◌∷◌, ◌++◌, length, IsFalse, IsTrue}
use Rattle.lists.specs.Each.{Each}
use Rattle.lists.specs.Prefixes.{IsPrefix}
use Rattle.vst_base.specs.declared.step.Item.TheVariants as item
use Rattle.vst_base.specs.declared.step.Step.{Step}
use Rattle.vst_base.specs.declared.step.Step.TheVariants as step
use Rattle.raft_free.specs.Events.{In}
use Rattle.raft_types.specs.declared.client.RaftInput.{RaftInput}
use Rattle.raft_types.specs.declared.client.RaftOut.TheVariants as told
use Rattle.linearizability.specs.Linearizable.{IsLinearizable, is_named}
use Rattle.raft_safety.specs.Applied.{applied_by}
use Rattle.raft_safety.specs.Runs as raft
use Rattle.raft_safety.specs.Safety.{AreMirrored}
use Rattle.raft_xform.specs.Nodes.{is_leader}
use Rattle.raft_reads.specs.Clusters.{ReadCluster, seen, world_after}
use Rattle.raft_reads.specs.Erasing.{erased, erased_world}
use Rattle.raft_reads.specs.ReadRaft.{waits}
use Rattle.raft_reads.specs.Reads.{no_reads}
use Rattle.reads_safety.specs.Orders.{answered, order}
use Rattle.reads_safety.specs.Runs.{ArePairsUnused, IsRun, ReadsLeave}

module _ (S C O : Type 0) where
  -- a run with reads is a run of Raft, which comes to the same nodes and packets
  abbrev pub RunsAreRaft : Type 0
  RunsAreRaft =
      (c : ReadCluster S C O) (ss : List (Step (RaftInput C))) → IsRun c ss →
      raft.IsRun c.machine c.nodes (erased c ss) × (erased_world (world_after c ss) ≡ raft.world_after c.machine c.nodes (erased c ss))

  -- without rounds and reads, any two moments of a run mirror two moments of a run of Raft with free choices
  abbrev pub RunsAreFree : Type 0
  RunsAreFree =
      (c : ReadCluster S C O) (early late : List (Step (RaftInput C))) → IsRun c (early ++ late) →
      AreMirrored c.nodes (erased_world (world_after c early)) (erased_world (world_after c (early ++ late)))

  -- as further steps are taken, what is applied grows at its end alone
  abbrev pub AppliedGrows : Type 0
  AppliedGrows =
      (c : ReadCluster S C O) (early late : List (Step (RaftInput C))) → IsRun c (early ++ late) →
      IsPrefix (applied_by c.machine c.nodes (erased c early)) (applied_by c.machine c.nodes (erased c (early ++ late)))

  -- a node has applied all that it knows to be committed
  abbrev pub AllIsApplied : Type 0
  AllIsApplied =
      (c : ReadCluster S C O) (ss : List (Step (RaftInput C))) (i : ℕ) →
      ((world_after c ss).state i).raft.applied ≡ ((world_after c ss).state i).raft.commit

  -- a node that does not lead has no round, no acknowledgement and no read that waits
  abbrev pub OnlyLeadersRead : Type 0
  OnlyLeadersRead =
      (c : ReadCluster S C O) (ss : List (Step (RaftInput C))) (i : ℕ) → IsFalse (is_leader ((world_after c ss).state i).raft.role) →
      ((world_after c ss).state i).reads ≡ no_reads c.nodes

  -- a read that was answered when its node had applied the log up to an index: it came to a leader that had committed an entry
  -- of its term, no node had ever applied more then than that leader had committed, and the index is no lower
  pub record HadReadIndex (c : ReadCluster S C O) (ss : List (Step (RaftInput C))) (y : ℕ × RaftInput C) : Type 0 where
    pub early : List (Step (RaftInput C))
    pub late : List (Step (RaftInput C))
    pub node : ℕ
    pub is : early ++ step.In node y.1 ∷ late ≡ ss
    pub came : IsTrue (waits c.is_read ((world_after c early).state node) y.1)
    pub committed : length (applied_by c.machine c.nodes (erased c early)) ≤ ((world_after c early).state node).raft.commit
    pub applied : ((world_after c early).state node).raft.commit ≤ y.0

  -- the read-index lemma. It is of a read by its value: of one that came more than once any of its arrivals may be this one,
  -- and where its pair is never used again (ArePairsUnused) it is the only one
  abbrev pub ReadIndex : Type 0
  ReadIndex =
      (c : ReadCluster S C O) (ss : List (Step (RaftInput C))) → IsRun c ss → (y : ℕ × RaftInput C) → In y (answered c ss) → HadReadIndex c ss y

  -- no read of the request's client and number waits at a node, and none was answered
  pub record IsGone (c : ReadCluster S C O) (ss : List (Step (RaftInput C))) (i : RaftInput C) : Type 0 where
    pub nowhere : (j : ℕ) → Each (λ x. IsFalse (is_named i.client i.request x.input)) ((world_after c ss).state j).reads.waiting
    pub unanswered : Each (λ y. IsFalse (is_named i.client i.request y.1)) (answered c ss)

  -- where neither is so once the read has come, it stays so: no round answers it any more
  abbrev pub DroppedIsGone : Type 0
  DroppedIsGone =
      (c : ReadCluster S C O) (early late : List (Step (RaftInput C))) (n : ℕ) (i : RaftInput C) →
      IsRun c (early ++ late) → ArePairsUnused c (early ++ late) →
      IsTrue (c.is_read i.cmd) → In (step.In n i) early → IsGone c early i → IsGone c (early ++ late) i

  -- the request came to a node at which it waited: it is a read, and took no entry
  pub record HasWaited (c : ReadCluster S C O) (ss : List (Step (RaftInput C))) (i : RaftInput C) : Type 0 where
    pub before : List (Step (RaftInput C))
    pub after : List (Step (RaftInput C))
    pub node : ℕ
    pub is : before ++ step.In node i ∷ after ≡ ss
    pub came : IsTrue (waits c.is_read ((world_after c before).state node) i)

  -- a read that waited, and that a node has dropped, is never answered: no client is told an output of its client and number
  abbrev pub DroppedIsUntold : Type 0
  DroppedIsUntold =
      (c : ReadCluster S C O) (early late : List (Step (RaftInput C))) (i : RaftInput C) →
      IsRun c (early ++ late) → ArePairsUnused c (early ++ late) → HasWaited c early i → IsGone c early i →
      (node : ℕ) (output : O) → In (item.Output node (told.Reply i.client i.request output)) (seen c (early ++ late)) → ⊥

  -- one machine, which takes the executed requests and the answered reads in their order, explains what clients see
  abbrev pub RunsAreLinearizable : Type 0
  RunsAreLinearizable =
      (c : ReadCluster S C O) (ss : List (Step (RaftInput C))) → ReadsLeave c → IsRun c ss → ArePairsUnused c ss →
      IsLinearizable c.machine (order c ss) (seen c ss)
