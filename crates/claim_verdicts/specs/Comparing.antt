-- How lines that come one after another compare with those that are claimed.
use Rattle.std.specs.Prelude.{ℕ, ◌≤◌, List, drop, Option, Some}
use Rattle.claim_verdicts.specs.Places.{first_difference}
use Rattle.claim_verdicts.specs.declared.comparison.Comparison.{Comparison}
use Rattle.claim_verdicts.specs.declared.comparison.Comparison.TheVariants.{SameSoFar, DiffersAt}

-- the first place at which all lines differ from those that are claimed, once these come too
abbrev pub difference_after : Comparison → List (List ℕ) → List (List ℕ) → Option ℕ
difference_after (SameSoFar place) claimed more = first_difference place (drop place claimed) more
difference_after (DiffersAt place) claimed more = Some place

-- its place is one of so many claimed lines, or that after the last
abbrev pub IsWithin : ℕ → Comparison → Type 0
IsWithin many (SameSoFar place) = place ≤ many
IsWithin many (DiffersAt place) = place ≤ many
