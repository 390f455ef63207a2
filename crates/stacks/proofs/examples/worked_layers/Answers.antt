use Rattle.fifo_xform.proofs.Lookups.{lookups}
use Rattle.stacks.proofs.examples.worked_layers.Goals as goal

pub returns-clause-in_order : goal.returns-clause-in_order
returns-clause-in_order c = simp lookups
