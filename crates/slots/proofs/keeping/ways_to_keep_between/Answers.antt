use Rattle.disk.specs.Between.{may_become_between}
use Rattle.disk.proofs.Between.{by_between}
use Rattle.slots.proofs.Turning.{keeps_save, keeps_nothing, keeps_both}
use Rattle.slots.proofs.Patching.{patch_is_such}
use Rattle.slots.proofs.keeping.ways_to_keep_between.Goals as goal

pub returns : goal.returns
returns g c = record {
  a_save = keeps_save may_become_between by_between;
  a_patch = patch_is_such may_become_between by_between;
  nothing = keeps_nothing may_become_between by_between;
  both = keeps_both may_become_between by_between;
}
