use Rattle.transformers.proofs.Carried.{retransmission_is}
use Rattle.transformers.proofs.laws.retransmission_carries.Goals as goal

pub returns : goal.returns
returns g c = retransmission_is _ _ _ _
