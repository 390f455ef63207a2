use Rattle.act_network.proofs.CellLaws.{cell_laws}
use Rattle.act_network.proofs.Stepping.{acts_are_events}
use Rattle.act_network.specs.Cells.{CellCanSave, cells}
use Rattle.act_network.proofs.examples.cells_keep_numbers.Goals as goal

pub returns : goal.returns
returns g c = acts_are_events _ _ _ _ cells CellCanSave cell_laws
