use Rattle.std.proofs.Common.{◌≡◌, ◌≤◌, ◌++◌, ℕ, List, drop, length, map}
use Rattle.claim_verdicts.specs.Places.{first_difference}
use Rattle.claim_verdicts.proofs.Comparing.{difference_from}
use Rattle.claim_verdicts.proofs.comparison.compare_from.Given as goal

-- the lines so far are as they are claimed
abbrev pub invariant-loop-index : goal.invariant-loop-index
invariant-loop-index g l =
    let rest = drop l.place l.claimed in
    let text = g.P.Printed.text in
    record {
      tells : (more : List (List ℕ))
          → first_difference l.place (drop l.place (map text l.claimed)) (map text l.came ++ more) ≡ difference_from text l.place rest l.came more l.index;
      within : l.index ≤ length rest;
    }
