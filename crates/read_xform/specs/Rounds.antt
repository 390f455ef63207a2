-- The reads that may be answered once so much of the log is applied.
use Rattle.std.specs.Prelude.{ℕ, Bool, not, ◌&&◌, List, [], ◌∷◌, nat_le, length, IsFalse}
use Rattle.std.specs.List.{filter}
use Rattle.vst_base.specs.Elections.{is_majority}
use Rattle.raft_reads.specs.Reads.{Reads, Waiting, in_round}

module _ {C : Type 0} where
  -- a read may be answered at this leader, which has applied so much of its log
  abbrev pub may_answer : ℕ → ℕ → Reads C → Waiting C → Bool
  may_answer me applied r x = is_majority (length r.acked) (in_round me r x.round) && nat_le x.read_index applied

  -- the first of these, if there is one, may not be answered
  abbrev pub IsBlocked : (Waiting C → Bool) → List (Waiting C) → Type 0
  IsBlocked ready [] = Unit {0}
  IsBlocked ready (x ∷ xs) = IsFalse (ready x)

  -- without those of its waiting reads that may be answered
  abbrev pub without : (Waiting C → Bool) → Reads C → Reads C
  without ready r = record { round = r.round; acked = r.acked; waiting = filter (λ x. not (ready x)) r.waiting }
