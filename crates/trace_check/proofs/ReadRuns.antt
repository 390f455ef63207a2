-- What clients see of a cluster whose reads take no entry of the log has a text, where they ask in texts: the reads that wait have texts, and
-- so has what the machine answers to them.
use Rattle.std.specs.Prelude.{ℕ, ◌<◌, Bool, not, ◌==◌, ◌&&◌, List, [], ◌∷◌, map, refl}
use Rattle.std.specs.List.{filter}
use Rattle.raft_reads.specs.ReadRaft.{ReadEffect, acknowledged, ended, on_input, on_message, read_raft, read_recovery, read_reply, reads_after, waits, with_reads, with_round}
use Rattle.raft_reads.specs.Reads.{ReadView, Reads, Waiting, is_appended, is_ready, no_reads, still_leads, with_ack, with_read}
use Rattle.raft_text.specs.RaftTexts.{IsRaftInput, IsRaftOutput}
use Rattle.raft_types.specs.Rounds.{ReadMsg}
use Rattle.raft_types.specs.Terms.{term_of}
use Rattle.raft_types.specs.declared.client.RaftInput.{RaftInput}
use Rattle.raft_types.specs.declared.msg.RaftMsg.{RaftMsg}
use Rattle.raft_xform.specs.Electing.{tick}
use Rattle.raft_xform.specs.Nodes.{RaftEffect, RaftView, is_leader}
use Rattle.raft_xform.specs.Raft as raft
use Rattle.raft_xform.specs.Raft.{raft_recovery}
use Rattle.raft_xform.specs.Replicating as replicating
use Rattle.stacks.specs.Kinds.{Application}
use Rattle.stacks.specs.Reads.{reads_of}
use Rattle.vst_base.specs.Machines.{MachineMeaning}
use Rattle.vst_base.specs.declared.net.Net.TheVariants as net
use Rattle.trace_check.specs.Spelled.{HasInputText, HasOutputText, IsSpelledCluster, IsSpelledMachine}
use Rattle.trace_check.proofs.Clusters.{cluster-spelled}
use Rattle.trace_check.proofs.Eaches.{either}
use Rattle.trace_check.proofs.Machines.{IsTextState, MachineKeeps, spelled-keeps}
use Rattle.trace_check.proofs.RaftRuns.{IsTextNode, IsTextRaftMsg, raft-keeps}
use Rattle.trace_check.proofs.Runs.{IsFine, KeepsTexts}
use Rattle.lists.specs.Each.{Each, each_append}

-- elements that a test takes
filter-each : {A : Type 0} (P : A → Type 0) (f : A → Bool) (xs : List A) → Each P xs → Each P (filter f xs)
filter-each P f [] all = tt
filter-each P f (x ∷ xs) all = either (Each P) (f x) (x ∷ filter f xs) (filter f xs) (all.0, filter-each P f xs all.1) (filter-each P f xs all.1)

module _ {S C O : Type 0} (m : MachineMeaning S C O) (HasIn : C → Type 0) (HasOut : O → Type 0) (Sound : S → Type 0) (keeps : MachineKeeps m HasIn HasOut Sound) (is_read : C → Bool) (nodes : ℕ) where
  abbrev IsText : ℕ → RaftView S C O → Type 0
  IsText n s = IsTextNode m HasIn HasOut Sound keeps nodes n s

  abbrev IsRaftFine : ℕ → RaftEffect S C O → Type 0
  IsRaftFine n e = IsFine net.Fail (raft.raft nodes m) (raft_recovery m) (IsRaftInput HasIn) (IsRaftOutput HasOut) (IsTextNode m HasIn HasOut Sound keeps nodes) (IsTextRaftMsg m HasIn HasOut Sound keeps nodes) n e

  abbrev IsTextRead : Waiting C → Type 0
  IsTextRead x = IsRaftInput HasIn x.input

  -- the node of Raft, and each read that waits
  abbrev pub IsTextReader : ℕ → ReadView S C O → Type 0
  IsTextReader n s = IsText n s.raft × Each IsTextRead s.reads.waiting

  abbrev pub IsTextReadMsg : ReadMsg C → Type 0
  IsTextReadMsg x = IsTextRaftMsg m HasIn HasOut Sound keeps nodes x.raft

  abbrev IsReadFine : ℕ → ReadEffect S C O → Type 0
  IsReadFine n e = IsFine net.Fail (read_raft nodes m is_read) (read_recovery nodes m) (IsRaftInput HasIn) (IsRaftOutput HasOut) IsTextReader IsTextReadMsg n e

  -- what reads are answered
  replies-text : (s : S) (xs : List (Waiting C)) → Sound s → Each IsTextRead xs → Each (IsRaftOutput HasOut) (map (read_reply m s) xs)
  replies-text s [] sound all = tt
  replies-text s (x ∷ xs) sound all = ((all.0.0, all.0.1, keeps.output s x.input.cmd sound all.0.2), replies-text s xs sound all.1)

  rounds-sent : (own term round : ℕ) (ps : List (ℕ × RaftMsg C)) → Each (λ p. (p.0 < nodes) × IsTextRaftMsg m HasIn HasOut Sound keeps nodes p.1) ps
      → Each (λ p. (p.0 < nodes) × IsTextReadMsg p.1) (map (with_round own term round) ps)
  rounds-sent own term round [] all = tt
  rounds-sent own term round (p ∷ ps) all = (all.0, rounds-sent own term round ps all.1)

  ended-fine : (n : ℕ) (e : RaftEffect S C O) (r : Reads C) (term round : ℕ) → IsRaftFine n e → Each IsTextRead r.waiting → IsReadFine n (ended m nodes n e r term round)
  ended-fine n e r term round fine waiting =
      let ready = filter (is_ready nodes n e.state r) r.waiting in
      record {
        state = (fine.state, filter-each IsTextRead (λ x. not (is_ready nodes n e.state r x)) r.waiting waiting);
        outputs = each_append (IsRaftOutput HasOut) e.outputs (map (read_reply m e.state.machine) ready) fine.outputs
            (replies-text e.state.machine ready fine.state.1 (filter-each IsTextRead (is_ready nodes n e.state r) r.waiting waiting));
        sends = rounds-sent r.round term round e.sends fine.sends;
      }

  -- an event of Raft, with reads
  reads-fine : (n : ℕ) (before : RaftView S C O) (e : RaftEffect S C O) (r : Reads C) (term round : ℕ) → IsRaftFine n e → Each IsTextRead r.waiting → IsReadFine n (with_reads m nodes n before e r term round)
  reads-fine n before e r term round fine waiting =
      ended-fine n e (reads_after nodes before e.state r) term round fine (either (λ (x : Reads C). Each IsTextRead x.waiting) (still_leads before e.state) r (no_reads nodes) waiting tt)

  abbrev within : KeepsTexts net.Fail (raft.raft nodes m) (raft_recovery m) (IsRaftInput HasIn) (IsRaftOutput HasOut) (IsTextNode m HasIn HasOut Sound keeps nodes) (IsTextRaftMsg m HasIn HasOut Sound keeps nodes)
  within = raft-keeps m HasIn HasOut Sound keeps nodes

  input-fine : (n : ℕ) (s : ReadView S C O) (i : RaftInput C) → n < nodes → IsTextReader n s → IsRaftInput HasIn i → IsReadFine n (on_input m is_read nodes n s i)
  input-fine n s i below text has =
      let waiting = with_read s.reads i s.raft.commit in
      either (IsReadFine n) (waits is_read s i) (with_reads m nodes n s.raft (tick m nodes n s.raft) waiting 0 0) (with_reads m nodes n s.raft (replicating.on_input m nodes n s.raft i) s.reads 0 0)
      (reads-fine n s.raft (tick m nodes n s.raft) waiting 0 0 (within.timeout n s.raft below text.0) (each_append IsTextRead s.reads.waiting _ text.1 (has, tt)))
      (reads-fine n s.raft (replicating.on_input m nodes n s.raft i) s.reads 0 0 (within.input n s.raft i below text.0 has) text.1)

  acknowledged-text : (n : ℕ) (s : ReadView S C O) (from : ℕ) (x : ReadMsg C) → IsTextReader n s → Each IsTextRead (acknowledged s from x).waiting
  acknowledged-text n s from x text =
      either (λ (r : Reads C). Each IsTextRead r.waiting) (is_appended x.raft && (is_leader s.raft.role && term_of x.raft == s.raft.ballot.term)) (with_ack s.reads from x.round) s.reads text.1 text.1

  message-fine : (n : ℕ) (s : ReadView S C O) (from : ℕ) (x : ReadMsg C) → n < nodes → from < nodes → IsTextReader n s → IsTextReadMsg x → IsReadFine n (on_message m nodes n s from x)
  message-fine n s from x below from_below text has =
      reads-fine n s.raft (raft.on_message m nodes n s.raft from x.raft) (acknowledged s from x) (term_of x.raft) x.round
      (within.message n s.raft from x.raft below from_below text.0 has) (acknowledged-text n s from x text)

  pub read-keeps : KeepsTexts net.Fail (read_raft nodes m is_read) (read_recovery nodes m) (IsRaftInput HasIn) (IsRaftOutput HasOut) IsTextReader IsTextReadMsg
  read-keeps = record {
    init = λ n. (within.init n, tt);
    input = input-fine;
    message = message-fine;
    timeout = λ n s below text. reads-fine n s.raft (tick m nodes n s.raft) s.reads 0 0 (within.timeout n s.raft below text.0) text.1;
    reboot = λ n s text. (within.reboot n s.raft text.0, tt);
  }

pub reads-spelled : (p : Application) (is_read : p.Command → Bool) → IsSpelledMachine p → IsSpelledCluster (reads_of p is_read)
reads-spelled p is_read is =
    let HasIn = HasInputText p.texts in
    let HasOut = HasOutputText p.texts in
    let state = IsTextState p is in
    let keeps = spelled-keeps p is in
    cluster-spelled (reads_of p is_read) is (IsTextReader p.machine HasIn HasOut state keeps is_read) (IsTextReadMsg p.machine HasIn HasOut state keeps is_read) (λ n. refl) (read-keeps p.machine HasIn HasOut state keeps is_read)
