use Rattle.node_records.proofs.Folds.{joins}
use Rattle.node_records.proofs.Growing.{records_grow}
use Rattle.node_records.proofs.records.records_grow.Goals as goal

pub returns-clause-join : goal.returns-clause-join
returns-clause-join g c = λ settings m. joins settings m g.C.Wire.format g.O.Wire.format

pub returns-clause-grow : goal.returns-clause-grow
returns-clause-grow g c = λ settings m. records_grow settings m g.C.Wire.format g.O.Wire.format
