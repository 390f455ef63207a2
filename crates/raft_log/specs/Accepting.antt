-- What a log answers to a leader's entries (the Raft paper, Figure 2, rules 3 and 4 of AppendEntries).
use Rattle.std.specs.Prelude.{ℕ, suc, ◌+◌, List, [], ◌∷◌, length, ◌==◌, if◌then◌else◌}
use Rattle.vst_base.specs.declared.entry.Entry.{Entry}
use Rattle.vst_base.specs.Logs.{accepted, has_conflict, term_at}
use Rattle.raft_log.specs.declared.accept.Accept.{Accept}
use Rattle.raft_log.specs.declared.accept.Accept.TheVariants.{Taken, Below}

-- how many of the entries that come agree in term with the old ones at their places, up to the first that doesn't
abbrev pub agreed : {C : Type 0} → List (Entry C) → List (Entry C) → ℕ
agreed old [] = 0
agreed [] (e ∷ es) = 0
agreed (o ∷ os) (e ∷ es) = if o.term == e.term then suc (agreed os es) else 0

-- the first index after prev at which the log has not the term of the entry that comes for it
abbrev pub first_conflict : {C : Type 0} → List (Entry C) → ℕ → List (Entry C) → ℕ
first_conflict log prev [] = suc prev
first_conflict log prev (e ∷ es) = if term_at log (suc prev) == e.term then first_conflict log (suc prev) es else suc prev

-- the answer to entries that come for the places after prev, where the log is committed up to commit
abbrev pub answer : {C : Type 0} → List (Entry C) → ℕ → ℕ → List (Entry C) → Accept
answer log commit prev es = if has_conflict log commit prev es then Below (first_conflict log prev es) else Taken (prev + length es)

-- the log after that answer
abbrev pub log_after : {C : Type 0} → List (Entry C) → ℕ → ℕ → List (Entry C) → List (Entry C)
log_after log commit prev es = if has_conflict log commit prev es then log else accepted log prev es
