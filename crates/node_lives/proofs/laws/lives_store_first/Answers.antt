use Rattle.node_lives.proofs.Recording.{lives_go_on, lives_store_first}
use Rattle.node_lives.proofs.laws.lives_store_first.Goals as goal

pub returns-clause-stores_first : goal.returns-clause-stores_first
returns-clause-stores_first g c = λ config m. lives_store_first g.C.Commands.stack config m g.C.Wire.format g.O.Wire.format

pub returns-clause-go_on : goal.returns-clause-go_on
returns-clause-go_on g c = λ config m. lives_go_on g.C.Commands.stack config m g.C.Wire.format g.O.Wire.format
