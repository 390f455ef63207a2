-- The end of an event, once Raft has done its part.
use Rattle.std.specs.Prelude.{ℕ, Bool, ◌&&◌, ◌==◌, List}
use Rattle.handler_trait.specs.Handling.{Gathered}
use Rattle.vst_base.specs.Machines.{MachineMeaning}
use Rattle.raft_types.specs.declared.client.RaftInput.{RaftInput}
use Rattle.raft_types.specs.declared.msg.RaftMsg.{RaftMsg}
use Rattle.raft_xform.specs.Electing.{tick}
use Rattle.raft_xform.specs.Nodes.{RaftView, is_leader, sending}
use Rattle.raft_reads.specs.ReadRaft.{ReadEffect, ended, with_reads}
use Rattle.raft_reads.specs.Reads.{ReadView, Reads, with_read}

-- what was gathered, where the outputs were lent and others came back
abbrev pub lent : {O M N : Type 0} → Gathered O M → Gathered O N → Gathered O N
lent within outside =
    record { outputs = within.outputs; sends = outside.sends; output_places = outside.output_places; send_places = outside.send_places }

module _ {S C O : Type 0} where
  -- a node that led before or not, in this term, leads in it
  abbrev pub leads_on : Bool → ℕ → RaftView S C O → Bool
  leads_on led term s = led && (is_leader s.role && s.ballot.term == term)

  -- the end of an event that left a node of Raft in this state, with these packets, and knowing this of reads
  abbrev pub finished : MachineMeaning S C O → ℕ → ℕ → RaftView S C O → List (ℕ × RaftMsg C) → Reads C → ℕ → ℕ → ReadEffect S C O
  finished m nodes me s packets r term round = ended m nodes me (sending s packets) r term round

  -- a read begins a round at this leader, and waits
  abbrev pub read_begins : MachineMeaning S C O → ℕ → ℕ → ReadView S C O → RaftInput C → ReadEffect S C O
  read_begins m nodes me s i = with_reads m nodes me s.raft (tick m nodes me s.raft) (with_read s.reads i s.raft.commit) 0 0
