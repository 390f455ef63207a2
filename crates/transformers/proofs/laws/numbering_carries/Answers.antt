use Rattle.transformers.proofs.Carried.{numbering_is}
use Rattle.transformers.proofs.laws.numbering_carries.Goals as goal

pub returns : goal.returns
returns g c = numbering_is _ _ _ _
