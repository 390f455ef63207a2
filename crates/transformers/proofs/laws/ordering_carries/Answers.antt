use Rattle.transformers.proofs.Carried.{ordering_is}
use Rattle.transformers.proofs.laws.ordering_carries.Goals as goal

pub returns : goal.returns
returns g c = ordering_is _ _ _ _
