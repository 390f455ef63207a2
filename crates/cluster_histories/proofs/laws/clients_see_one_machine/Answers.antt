use Rattle.cluster_histories.proofs.Clusters.{deeds_are_explained, deeds_are_of_one_run, kept_moves_are_explained, kept_moves_are_of_one_run}
use Rattle.cluster_histories.proofs.laws.clients_see_one_machine.Goals as goal

pub returns : goal.returns
returns g c = record {
  deeds = deeds_are_explained _ _ _;
  deeds_go_on = deeds_are_of_one_run _ _ _;
  moves = kept_moves_are_explained _ _ _;
  moves_go_on = kept_moves_are_of_one_run _ _ _;
}
