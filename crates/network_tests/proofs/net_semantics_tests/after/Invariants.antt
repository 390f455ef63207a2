use Rattle.std.proofs.Common.{◌≡◌}
use Rattle.net_semantics.specs.Shown.{IsSoundBy}
use Rattle.network_tests.proofs.net_semantics_tests.after.Given as goal

abbrev pub invariant-loop-step : goal.invariant-loop-step
invariant-loop-step g l = record {
  handlers : l.world.handlers ≡ l.fn.handlers;
  taken : l.world.taken ≡ l.step-index;
  sound : IsSoundBy g.H.Handlers l.world;
}
