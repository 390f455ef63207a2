-- What a proof remembers of a run: who stood for election, who voted, who led, and what was acknowledged. Nothing
-- of it is in the nodes or packets, and no claim about runs speaks of it.
use Rattle.std.specs.Prelude.{◌≡◌, ◌≢◌, ℕ, ◌<◌, ◌≤◌, ◌⊎◌, Bool, true, Option, Some, None, List, [], length, IsTrue}
use Rattle.vst_base.specs.declared.entry.Entry.{Entry}
use Rattle.vst_base.specs.Elections.{is_majority}
use Rattle.vst_base.specs.Logs.{term_at}
use Rattle.raft_histories.specs.Prefixes.{Same}
use Rattle.lists.specs.Prefixes.{IsPrefix}

pub record History (C : Type 0) : Type 0 where
  pub leader_log : ℕ → List (Entry C)  -- by term: its leader's log, as far as it has come
  pub candidacy : ℕ → ℕ → Option (List (Entry C))  -- by term and node: its log when it became a candidate
  pub leader : ℕ → Option ℕ  -- by term: who was elected
  pub vote : ℕ → ℕ → Option ℕ  -- by term and node: for whom it has voted
  pub acked : ℕ → ℕ → ℕ  -- by term and node: how much of the leader's log it has had

-- nothing was noted yet
abbrev pub empty_history : (C : Type 0) → History C
empty_history C = record { leader_log = λ u. []; candidacy = λ u c. None; leader = λ u. None; vote = λ u v. None; acked = λ u v. 0 }

-- each entry of the log stands where the leader of its term had it, after the same entries
pub record Descends {C : Type 0} (g : History C) (log : List (Entry C)) : Type 0 where
  pub at : (n : ℕ) → n ≤ length log → Same n log (g.leader_log (term_at log n))

-- the node has had, in the term t, the leader's entry of that term at n
pub record Acked {C : Type 0} (g : History C) (t node n : ℕ) : Type 0 where
  pub pos : 0 < t
  pub reach : n ≤ g.acked t node
  pub has : term_at (g.leader_log t) n ≡ t

-- a leader of a term over t and below u began without the entry of the term t at n
pub record Lost {C : Type 0} (g : History C) (t n u : ℕ) : Type 0 where
  pub by : ℕ
  pub who : ℕ
  pub log : List (Entry C)
  pub above : t < by
  pub below : by < u
  pub leader : g.leader by ≡ Some who
  pub candidacy : g.candidacy by who ≡ Some log
  pub lacks : term_at log n ≢ t

-- the log has the entry of the term t at n, or it was lost before the term u
abbrev pub HasOrLost : {C : Type 0} → History C → List (Entry C) → ℕ → ℕ → ℕ → Type 0
HasOrLost g log t n u = (term_at log n ≡ t) ⊎ Lost g t n u

-- the leader of the term t has an entry of its own at n, and a majority has had it
pub record OnMajority {C : Type 0} (nodes : ℕ) (g : History C) (t n : ℕ) : Type 0 where
  pub pos : 0 < t
  pub has : term_at (g.leader_log t) n ≡ t
  pub quorum : ℕ → Bool
  pub most : IsTrue (is_majority nodes quorum)
  pub held : (v : ℕ) → quorum v ≡ true → n ≤ g.acked t v

-- the first k entries of the log are those of a leader of a term up to u, and a majority has had them with an
-- entry of its term
pub record CommittedBy {C : Type 0} (nodes : ℕ) (g : History C) (log : List (Entry C)) (k u : ℕ) : Type 0 where
  pub by : ℕ
  pub index : ℕ
  pub le : by ≤ u
  pub upto : k ≤ index
  pub on_majority : OnMajority nodes g by index
  pub same : Same k log (g.leader_log by)

-- the first k entries of the log were committed in a term up to u
abbrev pub IsCommitted : {C : Type 0} → ℕ → History C → List (Entry C) → ℕ → ℕ → Type 0
IsCommitted nodes g log k u = (k ≡ 0) ⊎ CommittedBy nodes g log k u

-- a log with which a node became a candidate of the term u
pub record IsCandidacy {C : Type 0} (g : History C) (u : ℕ) (log : List (Entry C)) : Type 0 where
  pub pos : 0 < u
  pub descend : Descends g log
  pub terms : (n : ℕ) → term_at log n < u

-- the node c was elected in the term u, and began with a log that has all that its voters had had by then
pub record Election {C : Type 0} (nodes : ℕ) (g : History C) (u c : ℕ) : Type 0 where
  pub log : List (Entry C)
  pub candidacy : g.candidacy u c ≡ Some log
  pub front : IsPrefix log (g.leader_log u)
  pub quorum : ℕ → Bool
  pub most : IsTrue (is_majority nodes quorum)
  pub voted : (v : ℕ) → quorum v ≡ true → g.vote u v ≡ Some c
  pub kept : (v : ℕ) → quorum v ≡ true → (t n : ℕ) → t < u → Acked g t v n → HasOrLost g log t n u

-- what always holds of a history
pub record IsSoundHistory {C : Type 0} (nodes : ℕ) (g : History C) : Type 0 where
  pub descend : (u : ℕ) → Descends g (g.leader_log u)
  pub terms : (u n : ℕ) → term_at (g.leader_log u) n ≤ u
  pub none : (u : ℕ) → g.leader u ≡ None → g.leader_log u ≡ []
  pub reach : (u v : ℕ) → g.acked u v ≤ length (g.leader_log u)
  pub candidacies : (u c : ℕ) (log : List (Entry C)) → g.candidacy u c ≡ Some log → IsCandidacy g u log
  pub elections : (u c : ℕ) → g.leader u ≡ Some c → Election nodes g u c
