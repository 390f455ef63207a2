use Rattle.std.proofs.Common.{◌≡◌, ◌-◌}
use Rattle.made_schedules.proofs.Written.{Written}
use Rattle.made_schedules.proofs.writing.write_steps.Given as goal

-- the lines of the steps so far were written, and no count rose
abbrev pub invariant-loop : goal.invariant-loop
invariant-loop g l =
    let r = g.W.Network in
    let k = g.K.Sink in
    record {
      system : r.system l.making.network ≡ r.system l.fn.making.network;
      sound : r.sound l.making.network;
      written : Written (r.system l.fn.making.network) r.follows r.progress g.T.MakesInputs.inputs g.A.AppText.input_text l.seed l.steps (k.written l.fn.sink) (l.steps - l.counter) l.making (k.written l.sink);
      faults : k.faults l.sink ≡ k.faults l.fn.sink;
      wants : k.wants l.sink ≡ k.wants l.fn.sink;
    }
