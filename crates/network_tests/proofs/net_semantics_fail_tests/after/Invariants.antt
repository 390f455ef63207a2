use Rattle.std.proofs.Common.{◌≡◌}
use Rattle.handler_trait.specs.Facts.{rebootable_facts}
use Rattle.net_semantics.specs.ShownFail.{IsSoundFailBy}
use Rattle.network_tests.proofs.net_semantics_fail_tests.after.Given as goal

abbrev pub invariant-loop-step : goal.invariant-loop-step
invariant-loop-step g l = record {
  handlers : l.world.handlers ≡ l.fn.handlers;
  taken : l.world.taken ≡ l.step-index;
  sound : IsSoundFailBy (rebootable_facts g.H.Handlers g.H.Rebootable) l.world;
}
