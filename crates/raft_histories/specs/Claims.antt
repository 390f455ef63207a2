-- What holds of logs that take entries, and of every sound history.
use Rattle.std.specs.Prelude.{◌≡◌, ℕ, ◌+◌, ◌<◌, ◌≤◌, Some, List, length, IsTrue}
use Rattle.vst_base.specs.declared.entry.Entry.{Entry}
use Rattle.vst_base.specs.Logs.{accepted, matches}
use Rattle.raft_histories.specs.Prefixes.{Agree, Follows, Same, Took}
use Rattle.raft_histories.specs.Histories.{History, IsCommitted, IsSoundHistory, OnMajority}

-- a log that agrees with a leader's, and takes entries of it for the places after an index where both match
abbrev pub AcceptedIsTaken : Type 0 → Type 0
AcceptedIsTaken C =
    (old theirs : List (Entry C)) (prev prev_t : ℕ) (es : List (Entry C)) → Follows theirs prev prev_t es → Agree old theirs →
    IsTrue (matches old prev prev_t) → Took old theirs (prev + length es) (accepted old prev es)

-- what a majority has had in a term is in the log with which each leader of a greater term began
abbrev pub MajorityIsKept : Type 0 → Type 0
MajorityIsKept C =
    (nodes : ℕ) (g : History C) (t n u c : ℕ) (log : List (Entry C)) → IsSoundHistory nodes g → OnMajority nodes g t n →
    t < u → g.leader u ≡ Some c → g.candidacy u c ≡ Some log → (n ≤ length log) × Same n log (g.leader_log t)

-- two logs are equal as far as both are committed
abbrev pub CommittedAgree : Type 0 → Type 0
CommittedAgree C =
    (nodes : ℕ) (g : History C) (x y : List (Entry C)) (j k t u n : ℕ) → IsSoundHistory nodes g →
    IsCommitted nodes g x j t → IsCommitted nodes g y k u → n ≤ j → n ≤ k → Same n x y
