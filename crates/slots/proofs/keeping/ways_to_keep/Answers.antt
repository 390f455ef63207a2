use Rattle.disk.specs.Disk.{may_become}
use Rattle.disk.proofs.Between.{by_model}
use Rattle.slots.proofs.Turning.{keeps_save, keeps_nothing, keeps_both}
use Rattle.slots.proofs.Patching.{patch_is_such}
use Rattle.slots.proofs.keeping.ways_to_keep.Goals as goal

pub returns : goal.returns
returns g c = record {
  a_save = keeps_save may_become by_model;
  a_patch = patch_is_such may_become by_model;
  nothing = keeps_nothing may_become by_model;
  both = keeps_both may_become by_model;
}
