use Rattle.std.proofs.Common.{◌≡◌, ℕ, length, None}
use Rattle.std.specs.Prelude.{slice_get}
use Rattle.net_semantics.specs.ShownFail.{kept_at}
use Rattle.net_semantics.proofs.stopped.Stopped.new.Given as goal

abbrev pub invariant-loop : goal.invariant-loop
invariant-loop g l = record {
  nodes : length l.items.items ≡ l.counter;
  up : (n : ℕ) → kept_at (slice_get l.items.items n) ≡ None;
}
