-- What a mark and a list of the numbers above it stand for.
use Rattle.std.specs.Prelude.{ℕ, zero, suc, ◌<◌, ◌≤◌, List, length, slice_index}
use Rattle.std.specs.List.Sorted.{IsStrictlyIncreasing}
use Rattle.std.specs.Ordering.{nat_cmp}
use Rattle.std.specs.FinSet as set
use Rattle.std.specs.FinSet.{FinSet}
use Rattle.number_set.specs.Marked.{greatest}

-- all numbers below one
unfoldable pub numbers_below : ℕ → FinSet nat_cmp
numbers_below zero = set.empty
numbers_below (suc n) = set.insert (numbers_below n) n

-- the numbers below the mark, and those of the list
unfoldable pub members : ℕ → List ℕ → FinSet nat_cmp
members mark above = set.union (numbers_below mark) (set.from_list above)

-- a number may stand in the list: above the mark, but for the greatest, which no mark passes
pub record IsPast (mark n : ℕ) : Type 0 where
  pub from : mark ≤ n
  pub above : mark < greatest → mark < n

-- the list ascends, and is past the mark
pub record IsKept (mark : ℕ) (above : List ℕ) : Type 0 where
  pub fits : mark ≤ greatest
  pub ascending : IsStrictlyIncreasing above
  pub past : (k : ℕ) → k < length above → IsPast mark (slice_index above k)

-- where a number goes into an ascending list that lacks it
pub record GoesTo (xs : List ℕ) (n place : ℕ) : Type 0 where
  pub within : place ≤ length xs
  pub after : (k : ℕ) → k < place → slice_index xs k < n
  pub before : (k : ℕ) → place ≤ k → k < length xs → n < slice_index xs k
