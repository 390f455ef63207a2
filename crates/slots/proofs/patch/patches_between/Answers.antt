use Rattle.disk.specs.Between.{may_become_between}
use Rattle.disk.proofs.Between.{by_between}
use Rattle.slots.proofs.Patching.{patch_keeps, front_stays, gate_is_torn_alone, record_is_harmless, gate_is_either}
use Rattle.slots.proofs.patch.patches_between.Goals as goal

pub returns : goal.returns
returns g c = record {
  keeps = patch_keeps may_become_between by_between;
  front = front_stays may_become_between by_between;
  gate = gate_is_torn_alone may_become_between by_between;
  harmless = record_is_harmless may_become_between by_between;
  either = gate_is_either may_become_between by_between;
}
