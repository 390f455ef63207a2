use Rattle.disk.specs.Between.{may_become_between}
use Rattle.disk.proofs.Between.{by_between, test_between_says, only_lengths_are_more}
use Rattle.disk.proofs.CutShort.{faults_add_nothing_by}
use Rattle.disk.proofs.Disks.{between_is_more, holds_self, settled_stays, sync_takes_away}
use Rattle.disk.proofs.Failing.{failure_adds, acts_only_add}
use Rattle.disk.proofs.every_disk.laws_between.Goals as goal

pub returns : goal.returns
returns c = record {
  test = test_between_says;
  more = between_is_more;
  lengths = only_lengths_are_more;
  reads = holds_self may_become_between by_between;
  settled = settled_stays may_become_between by_between;
  sync = sync_takes_away may_become_between by_between;
  faults = faults_add_nothing_by may_become_between;
  nothing = failure_adds may_become_between by_between;
  add = acts_only_add may_become_between by_between;
}
