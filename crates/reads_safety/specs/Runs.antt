-- Runs of a cluster with reads, and which of them use no pair of a client and a number again.
use Rattle.std.specs.Prelude.{◌≡◌, ◌&&◌, ◌||◌, List, [], ◌∷◌, None, IfSome, IsFalse, IsTrue}
use Rattle.vst_base.specs.declared.step.Step.{Step}
use Rattle.lists.specs.Each.{Each}
use Rattle.raft_types.specs.Messages.{IsClusterSize}
use Rattle.raft_types.specs.declared.client.RaftInput.{RaftInput}
use Rattle.linearizability.specs.Linearizable.{is_named}
use Rattle.raft_reads.specs.Clusters.{ReadCluster, first, input_of, refused_from}

module _ {S C O : Type 0} where
  -- the cluster has so many nodes, and the network allows the schedule
  pub record IsRun (c : ReadCluster S C O) (ss : List (Step (RaftInput C))) : Type 0 where
    pub size : IsClusterSize c.nodes
    pub allowed : refused_from c (first c) ss ≡ None

  -- a read leaves the state of the machine as it is, whatever it is: also one that no run comes to
  abbrev pub ReadsLeave : ReadCluster S C O → Type 0
  ReadsLeave c = (s : S) (x : C) → IsTrue (c.is_read x) → (c.machine.apply s x).0 ≡ s

  -- the later request is of another client or number than the earlier one, or neither is a read
  abbrev pub MayFollow : ReadCluster S C O → RaftInput C → RaftInput C → Type 0
  MayFollow c i j = IsFalse (is_named j.client j.request i && (c.is_read i.cmd || c.is_read j.cmd))

  -- the step doesn't use the pair of this request again
  abbrev pub IsUnused : ReadCluster S C O → RaftInput C → Step (RaftInput C) → Type 0
  IsUnused c i s = IfSome (input_of s) (λ j. MayFollow c i j)

  -- none of the later steps uses the pair of this one again
  abbrev pub AreUnused : ReadCluster S C O → Step (RaftInput C) → List (Step (RaftInput C)) → Type 0
  AreUnused c s later = IfSome (input_of s) (λ i. Each (IsUnused c i) later)

  -- no pair of a client and a number is used again where either request is a read
  abbrev pub ArePairsUnused : ReadCluster S C O → List (Step (RaftInput C)) → Type 0
  ArePairsUnused c [] = Unit {0}
  ArePairsUnused c (s ∷ ss) = AreUnused c s ss × ArePairsUnused c ss
