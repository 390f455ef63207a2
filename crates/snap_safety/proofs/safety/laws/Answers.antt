use Rattle.snap_safety.proofs.Safe.{applied_grows, applied_is_free, each_machine_follows, executed_grows, is_free, none_is_dropped, none_is_missing, runs_are_linearizable}
use Rattle.snap_safety.proofs.safety.laws.Goals as goal

pub returns : goal.returns
returns g c = record {
  is_free = is_free _ _ _;
  applied_is_free = applied_is_free _ _ _;
  none_is_missing = none_is_missing _ _ _;
  applied_grows = applied_grows _ _ _;
  executed_grows = executed_grows _ _ _;
  each_machine_follows = each_machine_follows _ _ _;
  none_is_dropped = none_is_dropped _ _ _;
  linearizable = runs_are_linearizable _ _ _;
}
