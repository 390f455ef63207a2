use Rattle.std.proofs.Common.{◌≡◌, length}
use Rattle.base_tests.proofs.flight_index_tests.only_the_first_packets_of_their_source_and_destination_are_found.Given as goal

-- as many packets were sent
abbrev pub invariant-loop-k : goal.invariant-loop-k
invariant-loop-k g l = length l.index ≡ l.k
