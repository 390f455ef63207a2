-- An application on a cluster whose reads take no entry of the log.
use Rattle.std.specs.Prelude.{ℕ, Bool}
use Rattle.net_semantics.specs.Runs.{first_refused}
use Rattle.raft_reads.specs.Clusters.{ReadCluster}
use Rattle.raft_reads.specs.ReadRaft.{read_raft, read_recovery}
use Rattle.raft_reads.specs.Reads.{ReadView}
use Rattle.raft_types.specs.Messages.{KeptView}
use Rattle.raft_types.specs.Rounds.{ReadMsg}
use Rattle.raft_types.specs.declared.client.RaftInput.{RaftInput}
use Rattle.raft_types.specs.declared.client.RaftOut.{RaftOut}
use Rattle.read_observer.specs.Observed.{cluster_of}
use Rattle.read_observer.specs.Pairs.{checked, first_of_both, first_used}
use Rattle.reads_safety.specs.Orders.{order}
use Rattle.vst_base.specs.Machines.{MachineMeaning}
use Rattle.vst_base.specs.declared.net.Net.TheVariants as net
use Rattle.xform_stack.specs.Systems.{Played, played_on}
use Rattle.stacks.specs.Clusters.{ClusterOf}
use Rattle.stacks.specs.Kinds.{Application, OnCluster}

module _ {S C O : Type 0} (m : MachineMeaning S C O) (is_read : C → Bool) where
  abbrev pub reads_on : ℕ → ReadCluster S C O
  reads_on n = record { machine = m; is_read = is_read; nodes = n }

  -- Raft with reads: a run is also refused at the first step that uses a pair of a client and a number again where a read is concerned, and
  -- the order has what was executed and the reads that were answered
  abbrev pub read_cluster : ClusterOf C O
  read_cluster = record {
    State = ReadView S C O;
    Kept = KeptView C;
    Msg = ReadMsg C;
    handlers = λ n. read_raft n m is_read;
    recovery = λ n. read_recovery n m;
    refused = λ n ss. first_of_both (first_refused net.Fail (read_raft n m is_read) (read_recovery n m) ss) (first_used is_read ss);
    order = λ n. order (reads_on n);
  }

-- how schedules of such a cluster play: a pair is refused by what reads, and the image is the order
abbrev pub reads_played : {S C O : Type 0} → (C → Bool) → ReadCluster S C O → Played (RaftInput C) (RaftOut O) (RaftInput C)
reads_played asks c = checked asks (played_on (cluster_of c) (order c))

-- an application of which these commands read
abbrev pub reads_of : (p : Application) → (p.Command → Bool) → OnCluster
reads_of p is_read = record { application = p; cluster = read_cluster p.machine is_read }
