-- The safety of Raft with free choices (the Raft paper, Figure 3), over every run and any two moments of it.
use Rattle.std.specs.Prelude.{◌≡◌, ◌≢◌, ℕ, ◌<◌, ◌≤◌, List, [], ◌∷◌, length, take, IsFalse, IsTrue}
use Rattle.vst_base.specs.declared.entry.Entry.{Entry}
use Rattle.vst_base.specs.declared.what.What.TheVariants.{Request}
use Rattle.vst_base.specs.Logs.{has_conflict, matches, term_at}
use Rattle.raft_free.specs.Nodes.{Append, FreeWorld, Leader, first_world}
use Rattle.raft_free.specs.Events.{Allowed, Comes, Commit, Event, In, Propose, effect}
use Rattle.raft_free.specs.Runs.{Moments, Reached, Run}
use Rattle.lists.specs.Prefixes.{IsPrefix}

-- a log has the first k entries of another
abbrev pub Has : {C : Type 0} → List (Entry C) → ℕ → List (Entry C) → Type 0
Has log k other = (k ≤ length log) × (take k log ≡ take k other)

-- no two nodes lead in one term
abbrev pub ElectionSafety : Type 0 → Type 0
ElectionSafety C =
    (nodes : ℕ) (v w : FreeWorld C) (i j : ℕ) → Moments C nodes v w →
    (v.node i).role ≡ Leader → (w.node j).role ≡ Leader → (v.node i).term ≡ (w.node j).term → i ≡ j

-- the log of a node that leads in one term at both moments only grew at its end
abbrev pub LeaderAppendOnly : Type 0 → Type 0
LeaderAppendOnly C =
    (nodes : ℕ) (v w : FreeWorld C) (i : ℕ) → Moments C nodes v w →
    (v.node i).role ≡ Leader → (w.node i).role ≡ Leader → (v.node i).term ≡ (w.node i).term →
    IsPrefix (v.node i).log (w.node i).log

-- logs with equal terms at an index agree up to it
abbrev pub LogMatching : Type 0 → Type 0
LogMatching C =
    (nodes : ℕ) (v w : FreeWorld C) (i j k : ℕ) → Moments C nodes v w → k ≤ length (v.node i).log → k ≤ length (w.node j).log →
    term_at (v.node i).log k ≡ term_at (w.node j).log k → take k (v.node i).log ≡ take k (w.node j).log

-- what a leader commits, and all before it, is in the log of each leader of a greater term: of one that leads later
abbrev pub LeaderCompleteness : Type 0 → Type 0
LeaderCompleteness C =
    (nodes : ℕ) (v w : FreeWorld C) (i j k : ℕ) (late : List (Event C)) → Reached C nodes v →
    Allowed nodes v.sent (v.node i) (Commit i k) → Run nodes (effect v (Commit i k)) late w →
    (w.node j).role ≡ Leader → (v.node i).term < (w.node j).term → Has (w.node j).log k (v.node i).log

-- and of one that led before
abbrev pub LeaderCompletenessBefore : Type 0 → Type 0
LeaderCompletenessBefore C =
    (nodes : ℕ) (v w : FreeWorld C) (i j k : ℕ) → Moments C nodes v w → (v.node j).role ≡ Leader →
    Allowed nodes w.sent (w.node i) (Commit i k) → (w.node i).term < (v.node j).term → Has (v.node j).log k (w.node i).log

-- what any node knows to be committed is in the log of each leader of a term over the node's: of one that leads later
abbrev pub CommittedKept : Type 0 → Type 0
CommittedKept C =
    (nodes : ℕ) (v w : FreeWorld C) (i j k : ℕ) → Moments C nodes v w → k ≤ (v.node i).commit →
    (w.node j).role ≡ Leader → (v.node i).term < (w.node j).term → Has (w.node j).log k (v.node i).log

-- and of one that led before
abbrev pub CommittedKeptBefore : Type 0 → Type 0
CommittedKeptBefore C =
    (nodes : ℕ) (v w : FreeWorld C) (i j k : ℕ) → Moments C nodes v w → k ≤ (w.node i).commit →
    (v.node j).role ≡ Leader → (w.node i).term < (v.node j).term → Has (v.node j).log k (w.node i).log

-- what two nodes have applied up to an index is the same
abbrev pub StateMachineSafety : Type 0 → Type 0
StateMachineSafety C =
    (nodes : ℕ) (v w : FreeWorld C) (i j k : ℕ) → Moments C nodes v w → k ≤ (v.node i).applied → k ≤ (w.node j).applied →
    Has (v.node i).log k (w.node j).log × Has (w.node j).log k (v.node i).log

-- a node to which entries of its own term were sent does not lead
abbrev pub NoRivalAppends : Type 0 → Type 0
NoRivalAppends C =
    (nodes : ℕ) (w : FreeWorld C) (i l prev prev_t commit : ℕ) (es : List (Entry C)) → Reached C nodes w →
    Comes w.sent (w.node i) l i (Append prev prev_t es commit) → (w.node i).role ≢ Leader

-- entries of a node's own term that were sent to it do not conflict with what it knows to be committed
abbrev pub NoCommittedConflict : Type 0 → Type 0
NoCommittedConflict C =
    (nodes : ℕ) (w : FreeWorld C) (i l prev prev_t commit : ℕ) (es : List (Entry C)) → Reached C nodes w →
    Comes w.sent (w.node i) l i (Append prev prev_t es commit) → IsFalse (has_conflict (w.node i).log (w.node i).commit prev es)

-- entries of a node's own term that were sent to it, to stand after an index up to its commit, match its log there
abbrev pub MatchesBelowCommit : Type 0 → Type 0
MatchesBelowCommit C =
    (nodes : ℕ) (w : FreeWorld C) (i l prev prev_t commit : ℕ) (es : List (Entry C)) → Reached C nodes w →
    Comes w.sent (w.node i) l i (Append prev prev_t es commit) → prev ≤ (w.node i).commit → IsTrue (matches (w.node i).log prev prev_t)

-- each entry of a log was proposed in the run
abbrev pub NothingInvented : Type 0 → Type 0
NothingInvented C =
    (nodes : ℕ) (w : FreeWorld C) (events : List (Event C)) (i : ℕ) (e : Entry C) → Run nodes (first_world C) events w →
    In e (w.node i).log → (j : ℕ) × In (Propose j e) events

-- the laws above are not empty: each request of a command can come to be committed and applied at two nodes of three
abbrev pub Possible : Type 0 → Type 0
Possible C =
    (client request origin : ℕ) (cmd : C) → (w : FreeWorld C) × (e : Entry C) × Reached C 3 w
    × (e.what ≡ Request client request origin cmd) × ((w.node 0).role ≡ Leader)
    × ((w.node 0).log ≡ e ∷ []) × ((w.node 0).commit ≡ 1) × ((w.node 0).applied ≡ 1) × ((w.node 1).log ≡ e ∷ []) × ((w.node 1).applied ≡ 1)
