use Rattle.std.proofs.Common.{◌≡◌, ◌-◌, ◌≤◌, true, IfSome, vec_len, take}
use Rattle.disk.specs.Areas.{area_at}
use Rattle.node_state.specs.Fronts.{IsByNeed}
use Rattle.node_state.proofs.finding.find_in_area.Given as goal

-- the front that was read is no longer than it has to be, and so is the one that is read next
abbrev pub invariant-loop-bytes : goal.invariant-loop-bytes
invariant-loop-bytes g l =
    let k = g.D.Device in
    record {
      told : k.told l.device ≡ k.told l.initial.device;
      front : IfSome (k.told l.initial.device) (λ told. l.bytes.items ≡ take (vec_len l.bytes) (area_at told.disk l.area).bytes);
      len : vec_len l.bytes ≤ l.most;
      some : 1 ≤ l.most;
      need : IfSome (k.told l.initial.device) (λ told.
          IsByNeed g.C.Commands.stack g.C.Wire.format l.who (area_at told.disk l.area).bytes l.most);
      begun : k.begun l.device ≡ true;
      counts : k.faults l.device ≡ k.faults l.initial.device;
      wants : k.wants l.device ≡ k.wants l.initial.device;
    }

abbrev pub decreases-loop-bytes : goal.decreases-loop-bytes
decreases-loop-bytes g l = 18446744073709551616 - l.most
