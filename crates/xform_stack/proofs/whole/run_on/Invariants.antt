use Rattle.std.proofs.Common.{◌≡◌, [], take}
use Rattle.xform_stack.proofs.Stepping.{RunsOn}
use Rattle.xform_stack.specs.Systems.{played_on}
use Rattle.xform_stack.proofs.whole.run_on.Given as goal

abbrev pub invariant-loop-step : goal.invariant-loop-step
invariant-loop-step g l =
    let w = g.W.Network in
    let f = g.F.Observer in
    let now = l.running.network in
    let first = l.fn.network in
    record {
      same : played_on (w.system now) (f.image_of (w.within now) (w.system now).recovery) ≡ played_on (w.system first) (f.image_of (w.within first) (w.system first).recovery);
      run : RunsOn w.within w.system w.follows w.progress f.has_followed f.has_looked (f.image_of (w.within first) (w.system first).recovery) (w.system first) (take l.step-index l.steps) [] l.running;
      sound : w.sound now × f.fits (w.within now) (w.system now);
    }
