-- What clients see of a cluster of a spelled machine has texts, where the handlers keep what they are given in texts; so do those of Raft.
use Rattle.std.specs.Prelude.{◌≡◌, ℕ, refl}
use Rattle.std.proofs.Common.{subst}
use Rattle.raft_text.specs.RaftTexts.{IsRaftInput, IsRaftOutput}
use Rattle.raft_types.specs.declared.client.RaftInput.{RaftInput}
use Rattle.raft_types.specs.declared.client.RaftOut.{RaftOut}
use Rattle.stacks.specs.Clusters.{cluster_trace}
use Rattle.stacks.specs.Kinds.{Application, OnCluster, raft_of}
use Rattle.vst_base.specs.declared.net.Net.TheVariants as net
use Rattle.trace_check.specs.Spelled.{HasInputText, HasOutputText, IsSpelledCluster, IsSpelledMachine, IsTextItem}
use Rattle.trace_check.proofs.Machines.{IsTextState, spelled-keeps}
use Rattle.trace_check.proofs.RaftRuns.{IsTextNode, IsTextRaftMsg, raft-keeps}
use Rattle.trace_check.proofs.Runs.{KeepsTexts, trace-texts}
use Rattle.lists.specs.Each.{Each}

module _ (k : OnCluster) (is : IsSpelledMachine k.application) where
  abbrev HasIn : RaftInput k.application.Command → Type 0
  HasIn i = IsRaftInput (HasInputText k.application.texts) i

  abbrev HasOut : RaftOut k.application.Output → Type 0
  HasOut o = IsRaftOutput (HasOutputText k.application.texts) o

  pub cluster-spelled : (Sound : ℕ → ℕ → k.cluster.State → Type 0) (Fine : ℕ → k.cluster.Msg → Type 0) → ((n : ℕ) → (k.cluster.handlers n).nodes ≡ n)
      → ((n : ℕ) → KeepsTexts net.Fail (k.cluster.handlers n) (k.cluster.recovery n) HasIn HasOut (Sound n) (Fine n)) → IsSpelledCluster k
  cluster-spelled Sound Fine nodes keeps = record {
    machine = is;
    items = λ n ss allowed texts.
        subst (λ count. Each (IsTextItem count HasIn HasOut) (cluster_trace k.cluster n ss)) (nodes n)
        (trace-texts net.Fail (k.cluster.handlers n) (k.cluster.recovery n) HasIn HasOut (Sound n) (Fine n) (keeps n) ss allowed texts);
  }

pub raft-spelled : (p : Application) → IsSpelledMachine p → IsSpelledCluster (raft_of p)
raft-spelled p is =
    let HasIn = HasInputText p.texts in
    let HasOut = HasOutputText p.texts in
    let state = IsTextState p is in
    let keeps = spelled-keeps p is in
    cluster-spelled (raft_of p) is (IsTextNode p.machine HasIn HasOut state keeps) (IsTextRaftMsg p.machine HasIn HasOut state keeps) (λ n. refl) (raft-keeps p.machine HasIn HasOut state keeps)
