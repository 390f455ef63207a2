-- Logs that definitions are computed on.
use Rattle.std.specs.Prelude.{ℕ, List, [], ◌∷◌, map}
use Rattle.vst_base.specs.declared.entry.Entry.{Entry}
use Rattle.vst_base.specs.declared.what.What.TheVariants.{Noop, Request}

-- a request in this term, told from others of it by the command
abbrev pub entry : ℕ → ℕ → Entry ℕ
entry term cmd = record { term = term; what = Request 7 1 0 cmd }

-- what a new leader of this term adds
abbrev pub noop : ℕ → Entry ℕ
noop term = record { term = term; what = Noop }

-- a log of entries of these terms, all of one request
abbrev pub log : List ℕ → List (Entry ℕ)
log terms = map (λ t. entry t 0) terms

-- the logs of Figure 7 of the Raft paper, by their terms: the new leader's, and those of followers
abbrev pub leader : List (Entry ℕ)
leader = log (1 ∷ 1 ∷ 1 ∷ 4 ∷ 4 ∷ 5 ∷ 5 ∷ 6 ∷ 6 ∷ 6 ∷ [])

abbrev pub one_behind : List (Entry ℕ)
one_behind = log (1 ∷ 1 ∷ 1 ∷ 4 ∷ 4 ∷ 5 ∷ 5 ∷ 6 ∷ 6 ∷ [])

abbrev pub far_behind : List (Entry ℕ)
far_behind = log (1 ∷ 1 ∷ 1 ∷ 4 ∷ [])

abbrev pub one_more : List (Entry ℕ)
one_more = log (1 ∷ 1 ∷ 1 ∷ 4 ∷ 4 ∷ 5 ∷ 5 ∷ 6 ∷ 6 ∷ 6 ∷ 6 ∷ [])

abbrev pub of_a_later_term : List (Entry ℕ)
of_a_later_term = log (1 ∷ 1 ∷ 1 ∷ 4 ∷ 4 ∷ 5 ∷ 5 ∷ 6 ∷ 6 ∷ 6 ∷ 7 ∷ 7 ∷ [])

abbrev pub parted_late : List (Entry ℕ)
parted_late = log (1 ∷ 1 ∷ 1 ∷ 4 ∷ 4 ∷ 4 ∷ 4 ∷ [])

abbrev pub parted_early : List (Entry ℕ)
parted_early = log (1 ∷ 1 ∷ 1 ∷ 2 ∷ 2 ∷ 2 ∷ 3 ∷ 3 ∷ 3 ∷ 3 ∷ 3 ∷ [])
