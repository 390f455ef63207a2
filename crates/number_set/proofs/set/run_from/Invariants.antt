use Rattle.std.proofs.Common.{◌≡◌, ℕ, ◌+◌, ◌<◌, ◌≤◌, get_or}
use Rattle.number_set.specs.Marked.{greatest}
use Rattle.number_set.proofs.set.run_from.Given as goal

abbrev pub invariant-loop-i : goal.invariant-loop-i
invariant-loop-i l = record {
  end : l.end ≡ l.next + l.i;
  fits : l.end ≤ greatest;
  no_gap : (k : ℕ) → k < l.i → get_or l.numbers k 0 ≡ l.next + k;
}
