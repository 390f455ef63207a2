use Rattle.transformers.proofs.Carried.{numbered_twice, ordered_twice}
use Rattle.transformers.proofs.laws.two_carry.Goals as goal

pub returns-clause-numbered : goal.returns-clause-numbered
returns-clause-numbered g c = numbered_twice _ _ _ _

pub returns-clause-ordered : goal.returns-clause-ordered
returns-clause-ordered g c = ordered_twice _ _ _ _
