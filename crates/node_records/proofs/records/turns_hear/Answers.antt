use Rattle.node_records.proofs.Turning.{turns_hear}
use Rattle.node_records.proofs.records.turns_hear.Goals as goal

pub returns : goal.returns
returns g c = λ settings m. turns_hear settings m g.C.Wire.format g.O.Wire.format
