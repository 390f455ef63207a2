use Rattle.std.proofs.Common.{◌≡◌, ℕ, [], length, get_or}
use Rattle.std.specs.Prelude.{map}
use Rattle.flight_index.proofs.queues.Queues.open.Given as goal

-- each queue has what it had, and so many there are
abbrev pub invariant-loop : goal.invariant-loop
invariant-loop l = record {
  same : (i : ℕ) → get_or (map (λ q. q.items) l.self-inside.queues.items) i [] ≡ get_or l.fn.self i [];
  many : length l.self-inside.queues.items ≡ l.counter;
}
