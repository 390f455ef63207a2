use Rattle.raft_reads.proofs.Erasing.{runs_erase, steps_erase}
use Rattle.raft_reads.proofs.Quiet.{without_reads}
use Rattle.raft_reads.proofs.laws.erases_to_raft.Goals as goal

pub returns : goal.returns
returns g c = record {
  each_step = steps_erase _ _ _;
  each_run = runs_erase _ _ _;
  without_reads = without_reads _ _ _;
}
