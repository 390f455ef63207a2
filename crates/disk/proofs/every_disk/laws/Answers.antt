use Rattle.std.proofs.Common.{refl}
use Rattle.disk.specs.Disk.{may_become}
use Rattle.disk.proofs.Becoming.{test_says}
use Rattle.disk.proofs.Between.{by_model}
use Rattle.disk.proofs.Untouched.{others_as_before}
use Rattle.disk.proofs.CutShort.{faults_add_nothing_by, fronts_are_cut_short}
use Rattle.disk.proofs.Disks.{holds_self, settled_stays, sync_takes_away}
use Rattle.disk.proofs.Failing.{failure_adds, acts_only_add}
use Rattle.disk.proofs.every_disk.laws.Goals as goal

pub returns : goal.returns
returns c = record {
  reads = holds_self may_become by_model;
  settled = settled_stays may_become by_model;
  sync = sync_takes_away may_become by_model;
  test = test_says;
  model = λ first acts image. refl;
  before = others_as_before;
  faults = faults_add_nothing_by may_become;
  fronts = fronts_are_cut_short;
  nothing = failure_adds may_become by_model;
  add = acts_only_add may_become by_model;
}
