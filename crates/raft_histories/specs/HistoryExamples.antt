-- Histories that the definitions are computed on.
use Rattle.std.specs.Prelude.{ℕ, Bool, ◌&&◌, Some, None, [], ◌∷◌, nat_lt, ◌==◌, if◌then◌else◌}
use Rattle.vst_base.specs.declared.entry.Entry.{Entry}
use Rattle.vst_base.specs.declared.what.What.{What}
use Rattle.vst_base.specs.Elections.{nobody, with_node}
use Rattle.raft_histories.specs.Histories.{History, IsCommitted, IsSoundHistory, OnMajority, empty_history}

-- the history of nothing is sound, for any number of nodes
abbrev pub EmptyIsSound : Type 0 → Type 0
EmptyIsSound C = (nodes : ℕ) → IsSoundHistory nodes (empty_history C)

-- node 0 stood with an empty log in term 1 and leads by the votes of some nodes. Its log then has one entry, and some
-- nodes have had it
abbrev pub one_election : {C : Type 0} → (ℕ → Bool) → Entry C → (ℕ → Bool) → History C
one_election voters e holders = record {
  leader_log = λ u. if u == 1 then e ∷ [] else [];
  candidacy = λ u c. if u == 1 && c == 0 then Some [] else None;
  leader = λ u. if u == 1 then Some 0 else None;
  vote = λ u v. if u == 1 && voters v then Some 0 else None;
  acked = λ u v. if u == 1 && holders v then 1 else 0;
}

-- node 0 alone
abbrev pub one : ℕ → Bool
one = with_node 0 nobody

-- nodes 0 and 1
abbrev pub two : ℕ → Bool
two = with_node 1 one

-- an entry of this term, which holds this
abbrev pub entry : {C : Type 0} → ℕ → What C → Entry C
entry term what = record { term = term; what = what }

-- two nodes of three elect a leader, and both have had its entry
abbrev pub OneElectionIsSound : Type 0 → Type 0
OneElectionIsSound C = (what : What C) → IsSoundHistory 3 (one_election two (entry 1 what) two)

-- so the entry is on a majority and committed
abbrev pub ItsEntryIsCommitted : Type 0 → Type 0
ItsEntryIsCommitted C =
    (what : What C) → OnMajority 3 (one_election two (entry 1 what) two) 1 1
    × IsCommitted 3 (one_election two (entry 1 what) two) (entry 1 what ∷ []) 1 1

-- it is neither where the leader alone has had it
abbrev pub OneHolderCommitsNothing : Type 0 → Type 0
OneHolderCommitsNothing C =
    (what : What C) → IsSoundHistory 3 (one_election two (entry 1 what) one)
    × (OnMajority 3 (one_election two (entry 1 what) one) 1 1 → ⊥)
    × (IsCommitted 3 (one_election two (entry 1 what) one) (entry 1 what ∷ []) 1 1 → ⊥)

-- nobody leads by one vote of three
abbrev pub OneVoteElectsNobody : Type 0 → Type 0
OneVoteElectsNobody C = (what : What C) → IsSoundHistory 3 (one_election one (entry 1 what) two) → ⊥

-- no leader has an entry of a greater term than its own
abbrev pub NoGreaterTerm : Type 0 → Type 0
NoGreaterTerm C = (what : What C) → IsSoundHistory 3 (one_election two (entry 2 what) two) → ⊥

-- once nodes 0 and 1 have had the entry, node 2 leads in term 2 with an empty log, by the votes of 1 and 2
abbrev pub forgotten : {C : Type 0} → Entry C → History C
forgotten e = record (one_election two e two) {
  candidacy = λ u c. if u == 1 && c == 0 then Some [] else if u == 2 && c == 2 then Some [] else None;
  leader = λ u. if u == 1 then Some 0 else if u == 2 then Some 2 else None;
  vote = λ u v. if u == 1 && two v then Some 0 else if u == 2 && nat_lt 0 v then Some 2 else None;
}

-- which may not be: node 1 had it when it voted
abbrev pub WhatAVoterHadIsKept : Type 0 → Type 0
WhatAVoterHadIsKept C = (what : What C) → IsSoundHistory 3 (forgotten (entry 1 what)) → ⊥
