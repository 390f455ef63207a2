-- Where nothing of a log is gone: the log is the list of its entries, and the kind that keeps its whole log is Raft.
use Rattle.std.specs.Prelude.{◌≡◌, ℕ, List, length}
use Rattle.vst_base.specs.Elections as elections
use Rattle.vst_base.specs.Logs as list
use Rattle.vst_base.specs.Machines.{MachineMeaning}
use Rattle.vst_base.specs.declared.entry.Entry.{Entry}
use Rattle.raft_types.specs.Terms.{term_of}
use Rattle.raft_types.specs.declared.client.RaftInput.{RaftInput}
use Rattle.raft_types.specs.declared.msg.RaftMsg.{RaftMsg}
use Rattle.raft_xform.specs.Electing as electing
use Rattle.raft_xform.specs.Nodes as raft
use Rattle.raft_xform.specs.Raft.{on_message}
use Rattle.raft_xform.specs.Replicating as replicating
use Rattle.raft_snapshots.specs.Electing.{heard, tick}
use Rattle.raft_snapshots.specs.Logs.{LogView, accepted, advance, has_conflict, is_up_to_date, last_index, last_term, matches, term_at}
use Rattle.raft_snapshots.specs.Nodes.{NodeView, RaftEffect}
use Rattle.raft_snapshots.specs.Raft.{by_raft_message, plain}
use Rattle.raft_snapshots.specs.Replicating.{on_input}

-- a log that has all its entries
abbrev pub whole_log : {C : Type 0} → List (Entry C) → LogView C
whole_log es = record { base = 0; base_term = 0; entries = es }

-- each word on such a log says what the word on lists says
pub record IsTheList {C : Type 0} (es : List (Entry C)) : Type 0 where
  pub length_is : last_index (whole_log es) ≡ length es
  pub term_is : (n : ℕ) → term_at (whole_log es) n ≡ list.term_at es n
  pub last_term_is : last_term (whole_log es) ≡ list.last_term es
  pub matches_alike : (prev prev_term : ℕ) → matches (whole_log es) prev prev_term ≡ list.matches es prev prev_term
  pub accepted_alike : (prev : ℕ) (news : List (Entry C)) → accepted (whole_log es) prev news ≡ whole_log (list.accepted es prev news)
  pub conflicts_alike : (commit prev : ℕ) (news : List (Entry C)) →
      has_conflict (whole_log es) commit prev news ≡ list.has_conflict es commit prev news
  pub up_to_date_alike : (last last_t : ℕ) → is_up_to_date (whole_log es) last last_t ≡ elections.is_up_to_date es last last_t
  pub advances_alike : (nodes leader : ℕ) (matched : ℕ → ℕ) (term commit k : ℕ) →
      advance nodes leader matched (whole_log es) term commit k ≡ elections.advance nodes leader matched es term commit k

abbrev pub WholeLogs : Type 0 → Type 0
WholeLogs C = (es : List (Entry C)) → IsTheList es

module _ {S C O : Type 0} where
  -- a node of Raft, as one of the kind that keeps its whole log
  abbrev pub whole_node : raft.RaftView S C O → NodeView S C O (Unit {0})
  whole_node s = record {
    role = s.role;
    ballot = s.ballot;
    log = whole_log s.log;
    commit = s.commit;
    applied = s.applied;
    peers = s.peers;
    machine = s.machine;
    sessions = s.sessions;
    more = tt;
  }

  -- and what an event makes of it
  abbrev pub whole_effect : raft.RaftEffect S C O → RaftEffect S C O (Unit {0}) (RaftMsg C)
  whole_effect e = record { state = whole_node e.state; outputs = e.outputs; sends = e.sends }

module _ (S C O : Type 0) where
  -- each event of a node of that kind is the one of Raft
  pub record PlainIsRaft : Type 0 where
    pub input : (m : MachineMeaning S C O) (nodes me : ℕ) (s : raft.RaftView S C O) (i : RaftInput C) →
        on_input plain m nodes me (whole_node s) i ≡ whole_effect (replicating.on_input m nodes me s i)
    pub message : (m : MachineMeaning S C O) (nodes me : ℕ) (s : raft.RaftView S C O) (from : ℕ) (r : RaftMsg C) →
        by_raft_message plain m nodes me (heard (term_of r) (whole_node s)) from r ≡ whole_effect (on_message m nodes me s from r)
    pub timeout : (m : MachineMeaning S C O) (nodes me : ℕ) (s : raft.RaftView S C O) →
        tick plain m nodes me (whole_node s) ≡ whole_effect (electing.tick m nodes me s)
