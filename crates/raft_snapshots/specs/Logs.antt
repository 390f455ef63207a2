-- Logs whose first entries may be gone (the Raft paper, section 7). What a node has of a log stands after its base, the index
-- and the term of the last entry that is gone. A log whose base is 0 has all its entries.
use Rattle.std.specs.Prelude.{ℕ, zero, suc, ◌+◌, ◌-◌, Bool, ◌&&◌, ◌||◌, List, [], length, take, drop, nat_le, nat_lt, ◌==◌, if◌then◌else◌}
use Rattle.vst_base.specs.declared.entry.Entry.{Entry}
use Rattle.vst_base.specs.Elections.{holders, is_majority}
use Rattle.vst_base.specs.Logs as list

-- the index and the term of the last entry that is gone, and the entries behind it
pub record LogView (C : Type 0) : Type 0 where
  pub base : ℕ
  pub base_term : ℕ
  pub entries : List (Entry C)

-- the log with all its entries that has none yet
abbrev pub no_entries : (C : Type 0) → LogView C
no_entries C = record { base = 0; base_term = 0; entries = [] }

-- the index of its last entry
abbrev pub last_index : {C : Type 0} → LogView C → ℕ
last_index log = log.base + length log.entries

-- the term of the entry at an index, from the base on, and 0 where there is none
abbrev pub term_at : {C : Type 0} → LogView C → ℕ → ℕ
term_at log n = if n == log.base then log.base_term else list.term_at log.entries (n - log.base)

-- the term of its last entry, which may be gone
abbrev pub last_term : {C : Type 0} → LogView C → ℕ
last_term log = term_at log (last_index log)

-- the log has the index, at its base or after it, with this term
abbrev pub matches : {C : Type 0} → LogView C → ℕ → ℕ → Bool
matches log prev prev_term = nat_le log.base prev && nat_le prev (last_index log) && term_at log prev == prev_term

-- the entries after an index from the base on, so many
abbrev pub entries_after : {C : Type 0} → LogView C → ℕ → ℕ → List (Entry C)
entries_after log prev many = take many (drop (prev - log.base) log.entries)

-- with other entries behind its base
abbrev pub with_entries : {C : Type 0} → LogView C → List (Entry C) → LogView C
with_entries log es = record log { entries = es }

-- a leader's entries came for the places after prev, from the base on
abbrev pub accepted : {C : Type 0} → LogView C → ℕ → List (Entry C) → LogView C
accepted log prev es = with_entries log (list.accepted log.entries (prev - log.base) es)

-- one of them differs in term from the log's at an index up to commit
abbrev pub has_conflict : {C : Type 0} → LogView C → ℕ → ℕ → List (Entry C) → Bool
has_conflict log commit prev es = list.has_conflict log.entries (commit - log.base) (prev - log.base) es

-- the entries up to an index go
abbrev pub shortened : {C : Type 0} → LogView C → ℕ → LogView C
shortened log n = record { base = n; base_term = term_at log n; entries = drop (n - log.base) log.entries }

-- a log by its last index and term is up to date for a voter of this one
abbrev pub is_up_to_date : {C : Type 0} → LogView C → ℕ → ℕ → Bool
is_up_to_date log last last_t = nat_lt (last_term log) last_t || (last_t == last_term log && nat_le (last_index log) last)

-- a leader with this commit may commit up to the index, which is over its commit, and so after its base
abbrev pub may_commit : {C : Type 0} → ℕ → ℕ → (ℕ → ℕ) → LogView C → ℕ → ℕ → ℕ → Bool
may_commit nodes leader matched log term commit index =
    nat_lt commit index && (term_at log index == term && is_majority nodes (holders leader matched index))

-- the greatest index up to k that it may commit, and its commit where there is none
abbrev pub advance : {C : Type 0} → ℕ → ℕ → (ℕ → ℕ) → LogView C → ℕ → ℕ → ℕ → ℕ
advance nodes leader matched log term commit zero = commit
advance nodes leader matched log term commit (suc k) =
    if may_commit nodes leader matched log term commit (suc k) then suc k else advance nodes leader matched log term commit k
