use Rattle.cluster_histories.proofs.Storing.{deeds_are_moves}
use Rattle.cluster_histories.proofs.laws.deeds_are_moves.Goals as goal

pub returns : goal.returns
returns g c = deeds_are_moves _ _ _ _ _
