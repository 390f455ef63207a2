-- Worlds and clusters for worked rows.
use Rattle.std.specs.Prelude.{ℕ, List, [], ◌∷◌, replicate}
use Rattle.kv_machine.specs.Kv.{Store, is_read, kv}
use Rattle.kv_machine.specs.declared.cmd.KvCmd.{KvCmd}
use Rattle.kv_machine.specs.declared.cmd.KvCmd.TheVariants.{Get, Put}
use Rattle.kv_machine.specs.declared.out.KvOut.{KvOut}
use Rattle.net_semantics.specs.Runs.{run}
use Rattle.net_semantics.specs.Worlds.{Packet, World}
use Rattle.raft_reads.specs.Reads.{ReadView}
use Rattle.raft_reads.specs.ReadRaft.{read_raft, read_recovery}
use Rattle.raft_types.specs.Messages.{KeptView}
use Rattle.raft_types.specs.Rounds.{ReadMsg}
use Rattle.raft_types.specs.declared.client.RaftInput.{RaftInput}
use Rattle.raft_xform.specs.Clusters.{Cluster}
use Rattle.raft_xform.specs.Raft.{raft}
use Rattle.vst_base.specs.declared.lock.LockMsg.{LockMsg}
use Rattle.vst_base.specs.declared.stack.StackId.{StackId}
use Rattle.vst_base.specs.declared.stack.StackId.TheVariants as stack
use Rattle.vst_base.specs.declared.step.Step.{Step}
use Rattle.vst_base.specs.declared.step.Step.TheVariants as step
use Rattle.wire_messages.specs.KvBytes.{kv_command}
use Rattle.wire_messages.specs.RaftBytes.{raft_message}
use Rattle.wire_messages.specs.ReadBytes.{read_message}
use Rattle.wired.specs.RaftSaving.{raft_saving}
use Rattle.wired.specs.Saving.{Seated}
use Rattle.runs_in_bytes.specs.Clusters.{ByteCluster, IsOwnCluster, byte_world}

-- a world of the small application as it is, and without its packets
abbrev pub as_it_is : World ℕ ℕ ℕ → World ℕ ℕ ℕ
as_it_is w = w

abbrev pub without_packets : World ℕ ℕ ℕ → World ℕ ℕ ℕ
without_packets w = record w { packets = [] }

-- a cluster of so many nodes whose packets are of a stack, under a name of this byte, and whose bodies are of one, under a name of that
abbrev pub cluster_of : ℕ → StackId → ℕ → StackId → ℕ → ByteCluster (Cluster ℕ)
cluster_of nodes stack byte kept_as within = record {
  inner = record { inner = record { machine = 0; nodes = nodes }; stack = kept_as; name = replicate 16 within };
  stack = stack;
  name = replicate 16 byte;
}

-- the bytes of a cluster of Raft over the key-value machine, whose messages have at most so many, are its own
abbrev pub IsOwn : ℕ → ByteCluster (Cluster ℕ) → Type 0
IsOwn longest w = IsOwnCluster (raft_message kv_command) longest (λ c. raft c.nodes kv) w

-- one node whose reads take no entry: it is asked to put the value b at the key a, is read, and stops
abbrev pub put_and_read : List (Step (RaftInput KvCmd))
put_and_read =
    step.Tick 0 ∷ step.In 0 (record { client = 7; request = 1; cmd = Put (97 ∷ []) (98 ∷ []) })
    ∷ step.In 0 (record { client = 7; request = 2; cmd = Get (97 ∷ []) }) ∷ step.Crash 0 ∷ []

abbrev pub ReaderWorld : Type 0
ReaderWorld = World (ReadView Store KvCmd KvOut) (KeptView KvCmd) (ReadMsg KvCmd)

abbrev pub reader_after : List (Step (RaftInput KvCmd)) → ReaderWorld
reader_after ss = run (read_raft 1 kv is_read) (read_recovery 1 kv) ss

abbrev pub reader_in_bytes : ReaderWorld → World (Seated (ReadView Store KvCmd KvOut)) (List ℕ) (List ℕ)
reader_in_bytes v =
    byte_world (read_message kv_command) (λ c stack name. raft_saving stack kv_command c.nodes name) (cluster_of 1 stack.KvRaft 0 stack.KvRaft 0) v

-- a message from a client to the lock server, of which so many copies are in flight
abbrev pub to_the_server : LockMsg → ℕ → Packet LockMsg
to_the_server message copies = record { source = 1; destination = 0; content = message; copies = copies }
