use Rattle.disk.specs.Disk.{may_become}
use Rattle.disk.proofs.Between.{by_model}
use Rattle.slots.proofs.Patching.{patch_keeps, front_stays, gate_is_torn_alone, record_is_harmless, gate_is_either}
use Rattle.slots.proofs.patch.patches.Goals as goal

pub returns : goal.returns
returns g c = record {
  keeps = patch_keeps may_become by_model;
  front = front_stays may_become by_model;
  gate = gate_is_torn_alone may_become by_model;
  harmless = record_is_harmless may_become by_model;
  either = gate_is_either may_become by_model;
}
