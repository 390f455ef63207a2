-- Who may be elected (the Raft paper, sections 5.2 and 5.4.1), and what is committed (5.3 and 5.4.2). Sets of nodes are tests on
-- their numbers.
use Rattle.std.specs.Prelude.{ℕ, zero, suc, ◌*◌, ◌<◌, Bool, true, false, ◌&&◌, ◌||◌, Option, Some, None, List, length, nat_le, nat_lt, ◌==◌, if◌then◌else◌, IsTrue, min, max}
use Rattle.vst_base.specs.declared.entry.Entry.{Entry}
use Rattle.vst_base.specs.Logs.{last_term, term_at}

-- a candidate's log, by its last index and term, is up to date for a voter of this log: its last term is
-- greater, or equal where the candidate's log is no shorter
abbrev pub is_up_to_date : {C : Type 0} → List (Entry C) → ℕ → ℕ → Bool
is_up_to_date log last last_t = nat_lt (last_term log) last_t || (last_t == last_term log && nat_le (length log) last)

-- a node that has voted so in its term may vote for the candidate
abbrev pub is_free_for : Option ℕ → ℕ → Bool
is_free_for None candidate = true
is_free_for (Some node) candidate = node == candidate

abbrev pub nobody : ℕ → Bool
nobody node = false

-- the set with this node in it
abbrev pub with_node : ℕ → (ℕ → Bool) → ℕ → Bool
with_node node set other = if other == node then true else set other

-- how many of the nodes below a number are in the set
abbrev pub count : (ℕ → Bool) → ℕ → ℕ
count set zero = 0
count set (suc n) = if set n then suc (count set n) else count set n

-- more than half of so many nodes are in the set
abbrev pub is_majority : ℕ → (ℕ → Bool) → Bool
is_majority nodes set = nat_lt nodes (2 * count set nodes)

-- one of so many nodes is in both sets
pub record Shared (nodes : ℕ) (left right : ℕ → Bool) : Type 0 where
  pub who : ℕ
  pub below : who < nodes
  pub in_left : IsTrue (left who)
  pub in_right : IsTrue (right who)

abbrev pub MajoritiesMeet : Type 0
MajoritiesMeet =
    (nodes : ℕ) (left right : ℕ → Bool) → IsTrue (is_majority nodes left) → IsTrue (is_majority nodes right) → Shared nodes left right

-- the leader, and the nodes known to have its log up to the index
abbrev pub holders : ℕ → (ℕ → ℕ) → ℕ → ℕ → Bool
holders leader matched index = with_node leader (λ node. nat_le index (matched node))

-- a leader with this commit may commit up to the index: its entry there is of its own term, and most nodes
-- have it
abbrev pub may_commit : {C : Type 0} → ℕ → ℕ → (ℕ → ℕ) → List (Entry C) → ℕ → ℕ → ℕ → Bool
may_commit nodes leader matched log term commit index =
    nat_lt commit index && (term_at log index == term && is_majority nodes (holders leader matched index))

-- the greatest index up to k that the leader may commit, and its commit where there is none
abbrev pub advance : {C : Type 0} → ℕ → ℕ → (ℕ → ℕ) → List (Entry C) → ℕ → ℕ → ℕ → ℕ
advance nodes leader matched log term commit zero = commit
advance nodes leader matched log term commit (suc k) =
    if may_commit nodes leader matched log term commit (suc k) then suc k else advance nodes leader matched log term commit k

-- the commit of a node that took a leader's entries up to the index last: the leader's as far as that, and
-- never less than it was
abbrev pub learned_commit : ℕ → ℕ → ℕ → ℕ
learned_commit commit theirs last = max commit (min theirs last)
