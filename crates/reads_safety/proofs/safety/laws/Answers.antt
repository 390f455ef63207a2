use Rattle.reads_safety.proofs.Erased.{runs_are_free, runs_are_raft}
use Rattle.reads_safety.proofs.Gone.{dropped_is_gone}
use Rattle.reads_safety.proofs.Leading.{only_leaders_read}
use Rattle.reads_safety.proofs.Levels.{all_is_applied}
use Rattle.reads_safety.proofs.Linear.{reads_applied_grows, reads_are_linearizable}
use Rattle.reads_safety.proofs.Reading.{read_index}
use Rattle.reads_safety.proofs.Untold.{dropped_is_untold}
use Rattle.reads_safety.proofs.safety.laws.Goals as goal

pub returns : goal.returns
returns g c = record {
  is_raft = runs_are_raft _ _ _;
  is_free = runs_are_free _ _ _;
  applied_grows = reads_applied_grows _ _ _;
  all_is_applied = all_is_applied _ _ _;
  only_leaders_read = only_leaders_read _ _ _;
  dropped_is_gone = dropped_is_gone _ _ _;
  dropped_is_untold = dropped_is_untold _ _ _;
  read_index = read_index _ _ _;
  linearizable = reads_are_linearizable _ _ _;
}
