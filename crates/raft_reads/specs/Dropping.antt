-- When a node knows nothing of reads.
use Rattle.std.specs.Prelude.{◌≡◌, ℕ, Bool, IsFalse}
use Rattle.vst_base.specs.Machines.{MachineMeaning}
use Rattle.raft_types.specs.Messages.{KeptView}
use Rattle.raft_types.specs.declared.client.RaftInput.{RaftInput}
use Rattle.raft_reads.specs.ReadRaft.{ReadEffect, on_input, on_message, on_timeout, read_recovery}
use Rattle.raft_types.specs.Rounds.{ReadMsg}
use Rattle.raft_reads.specs.Reads.{ReadView, no_reads, still_leads}

-- unless it leads on in its term, it has no reads after the event
abbrev pub DropsReads : {S C O : Type 0} → ℕ → ReadView S C O → ReadEffect S C O → Type 0
DropsReads nodes s e = IsFalse (still_leads s.raft e.state.raft) → e.state.reads ≡ no_reads nodes

module _ (S C O : Type 0) where
  -- each event of a node
  pub record EventsDropReads : Type 0 where
    pub input : (m : MachineMeaning S C O) (is_read : C → Bool) (nodes me : ℕ) (s : ReadView S C O) (i : RaftInput C) →
        DropsReads nodes s (on_input m is_read nodes me s i)
    pub message : (m : MachineMeaning S C O) (nodes me : ℕ) (s : ReadView S C O) (from : ℕ) (x : ReadMsg C) →
        DropsReads nodes s (on_message m nodes me s from x)
    pub timeout : (m : MachineMeaning S C O) (nodes me : ℕ) (s : ReadView S C O) → DropsReads nodes s (on_timeout m nodes me s)

  -- and a start
  abbrev pub StartsDropReads : Type 0
  StartsDropReads =
      (m : MachineMeaning S C O) (nodes me : ℕ) (k : KeptView C) → ((read_recovery nodes m).reboot me k).reads ≡ no_reads nodes
