use Rattle.std.proofs.Common.{◌≡◌, ◌+◌, take}
use Rattle.std.specs.List.{count_by}
use Rattle.flight_index.specs.Flights.{goes_up}
use Rattle.flight_index.proofs.tree.nth_of_page.Given as goal

abbrev pub invariant-loop-k : goal.invariant-loop-k
invariant-loop-k l = count_by (goes_up l.up) (take l.k l.packets) + l.left ≡ l.i
