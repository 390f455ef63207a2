use Rattle.std.proofs.Common.{arith, ◌∙◌}
use Rattle.flight_index.proofs.Counts.{counted-less}
use Rattle.flight_index.proofs.tree.uncount.Goals as goal

pub bounds-counts-index : goal.bounds-counts-index
bounds-counts-index c = let within = (c.requires c.in-Some.to c.in-Some.is).0 in omega (arith, within, c.index.ensures)

pub returns-in-Some-clause-counts : goal.returns-in-Some-clause-counts
returns-in-Some-clause-counts c = λ ps n k h inside is. rw c.index.ensures (counted-less h inside (is ∙ c.in-Some.is))
