use Rattle.std.proofs.Common.{◌≡◌, true}
use Rattle.os_edge_tests.proofs.real_device_tests.time_passes.Given as goal

-- it has begun
abbrev pub invariant-loop : goal.invariant-loop
invariant-loop g l = g.D.Device.begun l.device ≡ true
