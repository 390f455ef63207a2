-- Raft with reads that take no entry of the log, as handlers: each event is one of Raft, and what it does to reads.
use Rattle.std.specs.Prelude.{ℕ, Bool, true, not, ◌&&◌, [], ◌++◌, None, map, ◌==◌, if◌then◌else◌}
use Rattle.std.specs.List.{filter}
use Rattle.handler_trait.specs.Handling.{Effect, Meaning, Recovery}
use Rattle.vst_base.specs.Machines.{MachineMeaning}
use Rattle.raft_types.specs.Messages.{KeptView}
use Rattle.raft_types.specs.Terms.{term_of}
use Rattle.raft_types.specs.declared.client.RaftInput.{RaftInput}
use Rattle.raft_types.specs.declared.client.RaftOut.{RaftOut}
use Rattle.raft_types.specs.declared.client.RaftOut.TheVariants as told
use Rattle.raft_types.specs.declared.msg.RaftMsg.{RaftMsg}
use Rattle.raft_xform.specs.Electing.{tick}
use Rattle.raft_xform.specs.Nodes.{RaftEffect, RaftView, is_leader, started_with}
use Rattle.raft_xform.specs.Raft as raft
use Rattle.raft_xform.specs.Replicating as replicating
use Rattle.raft_types.specs.Rounds.{ReadMsg}
use Rattle.raft_reads.specs.Reads.{ReadView, Reads, Waiting, has_committed_own, is_appended, is_ready, no_reads, round_of, started, still_leads, with_ack, with_read}

abbrev pub ReadEffect : Type 0 → Type 0 → Type 0 → Type 0
ReadEffect S C O = Effect (ReadView S C O) (RaftOut O) (ReadMsg C)

-- a packet with its round, from a node of this round that handles a message of this term and round
abbrev pub with_round : {C : Type 0} → ℕ → ℕ → ℕ → ℕ × RaftMsg C → ℕ × ReadMsg C
with_round own term round p = (p.0, record { raft = p.1; round = round_of own term round p.1 })

module _ {S C O : Type 0} where
  -- a client is told what the machine answers to its read in this state
  abbrev pub read_reply : MachineMeaning S C O → S → Waiting C → RaftOut O
  read_reply m state x = told.Reply x.input.client x.input.request (m.apply state x.input.cmd).1

  -- what a node knows of reads after an event of Raft: this if it still leads
  abbrev pub reads_after : ℕ → RaftView S C O → RaftView S C O → Reads C → Reads C
  reads_after nodes before after r = if still_leads before after then r else no_reads nodes

  -- the end of an event: the reads that may be answered are, in their order, and the others go on waiting
  abbrev pub ended : MachineMeaning S C O → ℕ → ℕ → RaftEffect S C O → Reads C → ℕ → ℕ → ReadEffect S C O
  ended m nodes me e r term round = record {
    state = record {
      raft = e.state;
      reads = record { round = r.round; acked = r.acked; waiting = filter (λ x. not (is_ready nodes me e.state r x)) r.waiting };
      answered = filter (is_ready nodes me e.state r) r.waiting;
    };
    outputs = e.outputs ++ map (read_reply m e.state.machine) (filter (is_ready nodes me e.state r) r.waiting);
    sends = map (with_round r.round term round) e.sends;
  }

  -- an event of Raft, which makes e of a node that was as before, with what the node knows of reads if it still leads. The message
  -- that it handles is of this term and round; without one they are 0
  abbrev pub with_reads : MachineMeaning S C O → ℕ → ℕ → RaftView S C O → RaftEffect S C O → Reads C → ℕ → ℕ → ReadEffect S C O
  with_reads m nodes me before e r term round = ended m nodes me e (reads_after nodes before e.state r) term round

  -- a request that takes no entry: a read, at a leader that has committed an entry of its term
  abbrev pub waits : (C → Bool) → ReadView S C O → RaftInput C → Bool
  waits is_read s i = is_read i.cmd && (is_leader s.raft.role && has_committed_own s.raft)

  -- such a read waits, and the leader sends every other node AppendEntries, as when its timer fires
  abbrev pub on_input : MachineMeaning S C O → (C → Bool) → ℕ → ℕ → ReadView S C O → RaftInput C → ReadEffect S C O
  on_input m is_read nodes me s i =
      if waits is_read s i then with_reads m nodes me s.raft (tick m nodes me s.raft) (with_read s.reads i s.raft.commit) 0 0
      else with_reads m nodes me s.raft (replicating.on_input m nodes me s.raft i) s.reads 0 0

  -- a leader keeps the greatest round that a node acknowledged in its term
  abbrev pub acknowledged : ReadView S C O → ℕ → ReadMsg C → Reads C
  acknowledged s from x =
      if is_appended x.raft && (is_leader s.raft.role && term_of x.raft == s.raft.ballot.term) then with_ack s.reads from x.round
      else s.reads

  abbrev pub on_message : MachineMeaning S C O → ℕ → ℕ → ReadView S C O → ℕ → ReadMsg C → ReadEffect S C O
  on_message m nodes me s from x =
      with_reads m nodes me s.raft (raft.on_message m nodes me s.raft from x.raft) (acknowledged s from x) (term_of x.raft) x.round

  abbrev pub on_timeout : MachineMeaning S C O → ℕ → ℕ → ReadView S C O → ReadEffect S C O
  on_timeout m nodes me s = with_reads m nodes me s.raft (tick m nodes me s.raft) s.reads 0 0

  abbrev pub read_raft : ℕ → MachineMeaning S C O → (C → Bool) → Meaning (ReadView S C O) (RaftInput C) (RaftOut O) (ReadMsg C)
  read_raft nodes m is_read = record {
    nodes = nodes;
    takes_input = λ _. true;
    init = λ _. started nodes (started_with m 0 None []);
    input = on_input m is_read nodes;
    message = on_message m nodes;
    timeout = on_timeout m nodes;
  }

  -- a node keeps what a node of Raft keeps, and starts with no reads
  abbrev pub read_recovery : ℕ → MachineMeaning S C O → Recovery (ReadView S C O) (KeptView C)
  read_recovery nodes m = record {
    keep = λ s. (raft.raft_recovery m).keep s.raft;
    reboot = λ n k. started nodes ((raft.raft_recovery m).reboot n k);
  }
