-- Counts of faults.
use Rattle.std.specs.Prelude.{ℕ, ◌+◌, ◌-◌, ◌^◌, ◌≤◌, min}

-- a count after one more, which stops at the greatest 64-bit number
abbrev pub counted : ℕ → ℕ
counted n = min (n + 1) (2 ^ 64 - 1)

-- a count rose in this call. One that stands at the greatest 64-bit number counts as risen
abbrev pub Rose : ℕ → ℕ → Type 0
Rose before now = counted before ≤ now
