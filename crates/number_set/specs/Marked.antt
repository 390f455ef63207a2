-- A set of numbers told by its gaps: the least number that is not in it, and those above this one that are, each by itself (a
-- cumulative and a selective acknowledgement, as those of TCP, RFC 9293 and RFC 2018).
use Rattle.std.specs.Prelude.{◌≡◌, ℕ, ◌-◌, ◌^◌, ◌<◌, ◌≤◌, ◌↔◌, true, false, List, Contains}
use Rattle.std.specs.List.Sorted.{IsStrictlyIncreasing}
use Rattle.std.specs.Ordering.{nat_cmp}
use Rattle.std.specs.FinSet as set
use Rattle.std.specs.FinSet.{FinSet}

-- the greatest number of 64 bits
abbrev pub greatest : ℕ
greatest = 2 ^ 64 - 1

-- the mark of a set is the least number of 64 bits that is not in it, and the list has the set's numbers above it, in ascending order.
-- A set of all these numbers lacks none: its mark is the greatest, which is then in the list
pub record IsMarked (s : FinSet nat_cmp) (mark : ℕ) (above : List ℕ) : Type 0 where
  pub fits : mark ≤ greatest
  pub below : (n : ℕ) → n < mark → set.contains s n ≡ true
  pub missing : mark < greatest → set.contains s mark ≡ false
  pub ascending : IsStrictlyIncreasing above
  pub listed : (n : ℕ) → Contains above n ↔ ((mark ≤ n) × (set.contains s n ≡ true))
