use Rattle.std.proofs.Common.{◌≡◌, ℕ, ◌<◌, length, Some}
use Rattle.std.specs.Prelude.{slice_get}
use Rattle.net_semantics.proofs.events.first_states.Given as goal

abbrev pub invariant-loop-n : goal.invariant-loop-n
invariant-loop-n g l = record {
  nodes : length l.states.items ≡ l.n;
  first : (k : ℕ) → k < l.n → slice_get l.states.items k ≡ Some ((g.H.Handlers.meaning l.fn.handlers).init k);
  sound : (k : ℕ) → k < l.n → g.H.Handlers.sound l.fn.handlers k ((g.H.Handlers.meaning l.fn.handlers).init k);
}
