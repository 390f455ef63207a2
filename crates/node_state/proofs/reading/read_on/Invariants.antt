use Rattle.std.proofs.Common.{◌≡◌, ◌-◌, ◌≤◌, true, IfSome, vec_len, ◌++◌, drop}
use Rattle.disk.specs.Areas.{area_at}
use Rattle.node_state.proofs.reading.read_on.Given as goal

abbrev pub invariant-loop-buf : goal.invariant-loop-buf
invariant-loop-buf g l =
    let k = g.D.Device in
    record {
      told : k.told l.device ≡ k.told l.initial.device;
      front : IfSome (k.told l.initial.device) (λ told. l.bytes.items ++ drop (vec_len l.bytes) (area_at told.disk l.area).bytes ≡ (area_at told.disk l.area).bytes);
      most : vec_len l.bytes ≤ l.most;
      begun : k.begun l.device ≡ true;
      counts : k.faults l.device ≡ k.faults l.initial.device;
      wants : k.wants l.device ≡ k.wants l.initial.device;
    }

abbrev pub decreases-loop-buf : goal.decreases-loop-buf
decreases-loop-buf g l = l.most - vec_len l.bytes
