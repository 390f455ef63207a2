use Rattle.cluster_histories.proofs.Explaining.{moments_are_of_one_run, moves_are_explained, moves_are_runs}
use Rattle.cluster_histories.proofs.Parting.{parts_are_allowed}
use Rattle.cluster_histories.proofs.laws.moves_are_runs.Goals as goal

pub returns : goal.returns
returns g c = record {
  parts = λ m r moves p. parts_are_allowed m r moves p;
  are_runs = moves_are_runs _ _ _ _ _;
  moments = moments_are_of_one_run _ _ _ _ _;
  one_machine = moves_are_explained _ _ _ _ _ _;
}
