-- Logs (the Raft paper, section 5.3): lists of entries, whose indexes count from 1.
use Rattle.std.specs.Prelude.{ℕ, zero, suc, Bool, false, not, ◌&&◌, ◌||◌, List, [], ◌∷◌, ◌++◌, length, take, drop, nat_le, ◌==◌, if◌then◌else◌}
use Rattle.vst_base.specs.declared.entry.Entry.{Entry}

-- the term of the entry at an index, and 0 at index 0 and past the end
abbrev pub term_at : {C : Type 0} → List (Entry C) → ℕ → ℕ
term_at [] n = 0
term_at (e ∷ es) zero = 0
term_at (e ∷ es) (suc zero) = e.term
term_at (e ∷ es) (suc (suc n)) = term_at es (suc n)

abbrev pub last_term : {C : Type 0} → List (Entry C) → ℕ
last_term log = term_at log (length log)

-- the log reaches the index, and has this term there
abbrev pub matches : {C : Type 0} → List (Entry C) → ℕ → ℕ → Bool
matches log prev prev_term = nat_le prev (length log) && term_at log prev == prev_term

-- what stands after an index once a leader's entries came for it: the old entries are cut at the first that
-- differs in term from the new one, and the new ones that are missing are added
abbrev pub merged : {C : Type 0} → List (Entry C) → List (Entry C) → List (Entry C)
merged old [] = old
merged [] (e ∷ es) = e ∷ es
merged (o ∷ os) (e ∷ es) = if o.term == e.term then o ∷ merged os es else e ∷ es

-- the log once a leader's entries came for the places after the index prev
abbrev pub accepted : {C : Type 0} → List (Entry C) → ℕ → List (Entry C) → List (Entry C)
accepted log prev es = take prev log ++ merged (drop prev log) es

-- one of the entries that come for the places after prev differs in term from the log's at an index up to commit
abbrev pub has_conflict : {C : Type 0} → List (Entry C) → ℕ → ℕ → List (Entry C) → Bool
has_conflict log commit prev [] = false
has_conflict log commit prev (e ∷ es) =
    (nat_le (suc prev) commit && not (term_at log (suc prev) == e.term)) || has_conflict log commit (suc prev) es
