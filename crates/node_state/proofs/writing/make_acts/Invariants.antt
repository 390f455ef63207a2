use Rattle.std.proofs.Common.{◌≡◌, true, take}
use Rattle.node_device.specs.Telling.{Did}
use Rattle.store_acts.specs.StoreActs.{acts_of}
use Rattle.node_state.proofs.writing.make_acts.Given as goal

-- the acts so far were done, and nothing failed
abbrev pub invariant-loop-act : goal.invariant-loop-act
invariant-loop-act g l =
    let k = g.D.Device in
    record {
      did : Did (k.told l.initial.device) (k.told l.device) (acts_of (take l.act-index l.acts));
      begun : k.begun l.device ≡ true;
      counts : k.faults l.device ≡ k.faults l.initial.device;
      wants : k.wants l.device ≡ k.wants l.initial.device;
    }
