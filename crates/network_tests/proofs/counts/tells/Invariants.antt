use Rattle.std.proofs.Common.{◌≡◌, ◌+◌}
use Rattle.network_tests.proofs.counts.tells.Given as goal

abbrev pub invariant-loop-step : goal.invariant-loop-step
invariant-loop-step g l =
    let w = g.W.Network in
    record {
      sound : w.sound l.network;
      taken : (w.progress l.network).taken ≡ (w.progress l.fn.network).taken + l.step-index;
    }
