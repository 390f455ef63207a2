-- What a proof keeps of each node and each message beside a history, and how a history grows.
use Rattle.std.proofs.Common.{◌≡◌, ◌≢◌, ℕ, suc, ◌<◌, ◌≤◌, Bool, true, Option, Some, List, length}
use Rattle.vst_base.specs.declared.entry.Entry.{Entry}
use Rattle.vst_base.specs.Logs.{last_term, term_at}
use Rattle.raft_histories.specs.Histories.{Acked, Descends, HasOrLost, History, IsCommitted, IsSoundHistory}
use Rattle.raft_histories.specs.Prefixes.{Follows}
use Rattle.lists.specs.Prefixes.{IsPrefix}

-- the node v has voted for the candidate c of the term u, whose log had all that v had had by then
pub record Cast {C : Type 0} (g : History C) (u v c : ℕ) : Type 0 where
  pub log : List (Entry C)
  pub candidacy : g.candidacy u c ≡ Some log
  pub kept : (t n : ℕ) → t < u → Acked g t v n → HasOrLost g log t n (suc u)

-- the node i, which has voted so in its term, has voted for c in the term u
pub record Voted {C : Type 0} (g : History C) (i term : ℕ) (voted : Option ℕ) (u c : ℕ) : Type 0 where
  pub le : u ≤ term
  pub now : u ≡ term → voted ≡ Some c
  pub cast : Cast g u i c

-- what always holds of what a node keeps through a crash: its term, its vote and its log
pub record IsSoundKept {C : Type 0} (g : History C) (i term : ℕ) (voted : Option ℕ) (log : List (Entry C)) : Type 0 where
  pub descend : Descends g log
  pub terms : (n : ℕ) → term_at log n ≤ term
  pub past : (t n : ℕ) → Acked g t i n → t ≤ term
  pub acks : (t n : ℕ) → Acked g t i n → HasOrLost g log t n (suc term)
  pub votes : (u c : ℕ) → g.vote u i ≡ Some c → Voted g i term voted u c
  pub candidacies : (u : ℕ) (its : List (Entry C)) → g.candidacy u i ≡ Some its → u ≤ term

-- the node i leads in its term, with its term's log, and what it knows of the others is true
pub record Leads {C : Type 0} (g : History C) (i term : ℕ) (log : List (Entry C)) (matched : ℕ → ℕ) : Type 0 where
  pub leader : g.leader term ≡ Some i
  pub own : log ≡ g.leader_log term
  pub heard : (j : ℕ) → matched j ≤ g.acked term j

-- the node i is a candidate of its term, was not elected yet, and has the votes that it counts
pub record Stands {C : Type 0} (g : History C) (i term : ℕ) (log : List (Entry C)) (votes : ℕ → Bool) : Type 0 where
  pub candidacy : g.candidacy term i ≡ Some log
  pub fresh : g.leader term ≢ Some i
  pub cast : (v : ℕ) → votes v ≡ true → g.vote term v ≡ Some i

-- a candidate's request for votes tells of the log with which it became one
pub record Asked {C : Type 0} (g : History C) (c u last last_t : ℕ) : Type 0 where
  pub log : List (Entry C)
  pub candidacy : g.candidacy u c ≡ Some log
  pub at : last ≡ length log
  pub term : last_t ≡ last_term log

-- entries that the leader l of the term u sends to the node i are its own, and its commit is true
pub record Replicated {C : Type 0} (nodes : ℕ) (g : History C) (l i u prev prev_t : ℕ) (es : List (Entry C)) (commit : ℕ) : Type 0 where
  pub leader : g.leader u ≡ Some l
  pub other : i ≢ l
  pub follows : Follows (g.leader_log u) prev prev_t es
  pub committed : IsCommitted nodes g (g.leader_log u) commit u

-- what was noted stays noted: logs of leaders grow at their ends, and who has voted in a term acknowledges no
-- more of an earlier one
pub record Grows {C : Type 0} (g h : History C) : Type 0 where
  pub leader_log : (u : ℕ) → IsPrefix (g.leader_log u) (h.leader_log u)
  pub candidacy : (u c : ℕ) (log : List (Entry C)) → g.candidacy u c ≡ Some log → h.candidacy u c ≡ Some log
  pub leader : (u c : ℕ) → g.leader u ≡ Some c → h.leader u ≡ Some c
  pub vote : (u v c : ℕ) → g.vote u v ≡ Some c → h.vote u v ≡ Some c
  pub acked : (u v : ℕ) → g.acked u v ≤ h.acked u v
  pub frozen : (u v c t : ℕ) → g.vote u v ≡ Some c → t < u → h.acked t v ≤ g.acked t v

-- the node j has acknowledged, voted and stood no more
pub record Apart {C : Type 0} (j : ℕ) (g h : History C) : Type 0 where
  pub acked : (t : ℕ) → h.acked t j ≤ g.acked t j
  pub vote : (u c : ℕ) → h.vote u j ≡ Some c → g.vote u j ≡ Some c
  pub candidacy : (u : ℕ) (log : List (Entry C)) → h.candidacy u j ≡ Some log → g.candidacy u j ≡ Some log

-- nothing was noted of the node j
pub record Aside {C : Type 0} (j : ℕ) (g h : History C) : Type 0 where
  pub apart : Apart j g h
  pub leader : (u : ℕ) → h.leader u ≡ Some j → g.leader u ≡ Some j
  pub leader_log : (u : ℕ) → g.leader u ≡ Some j → h.leader_log u ≡ g.leader_log u

-- the sound history h is the history g with something noted of the node i alone, which then keeps these
pub record Noted {C : Type 0} (nodes i : ℕ) (g h : History C) (term : ℕ) (voted : Option ℕ) (log : List (Entry C)) : Type 0 where
  pub past : IsSoundHistory nodes h
  pub grows : Grows g h
  pub aside : (j : ℕ) → j ≢ i → Aside j g h
  pub kept : IsSoundKept h i term voted log
