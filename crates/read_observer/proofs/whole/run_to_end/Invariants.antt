use Rattle.std.proofs.Common.{◌≡◌, [], take}
use Rattle.xform_stack.specs.Running.{HasRun}
use Rattle.read_observer.proofs.whole.run_to_end.Given as goal

abbrev pub invariant-loop-step : goal.invariant-loop-step
invariant-loop-step g l =
    let r = g.R.Runs in
    record {
      same : r.played l.running ≡ r.played l.fn.running;
      run : HasRun (r.played l.fn.running) r.follows r.progress (take l.step-index l.steps) [] l.running;
      sound : r.sound l.running;
    }
