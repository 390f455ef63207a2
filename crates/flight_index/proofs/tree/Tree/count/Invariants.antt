use Rattle.std.proofs.Common.{◌≡◌}
use Rattle.std.specs.List.{count_by}
use Rattle.flight_index.proofs.Counts.{goes_below}
use Rattle.flight_index.proofs.tree.Tree.count.Given as goal

abbrev pub invariant-loop-k : goal.invariant-loop-k
invariant-loop-k l = l.total ≡ count_by (goes_below l.k l.up) l.self
