use Rattle.node_records.proofs.Leaving.{moments_grow}
use Rattle.node_records.proofs.moments.moments_grow.Goals as goal

pub returns : goal.returns
returns g c = λ settings m. moments_grow settings m g.C.Wire.format g.O.Wire.format
