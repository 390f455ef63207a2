use Rattle.std.proofs.Common.{◌≡◌, length}
use Rattle.base_tests.proofs.flight_index_tests.of_two_hundred.Given as goal

abbrev pub invariant-loop-k : goal.invariant-loop-k
invariant-loop-k l = length l.index.packets ≡ l.k
