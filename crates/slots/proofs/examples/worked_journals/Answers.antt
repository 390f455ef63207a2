use Rattle.disk.specs.Disk.{may_become}
use Rattle.disk.proofs.Between.{by_model}
use Rattle.slots.proofs.Worked.{any_gate_is_either}
use Rattle.slots.proofs.examples.worked_journals.Goals as goal

pub returns-clause-any_gate : goal.returns-clause-any_gate
returns-clause-any_gate c = any_gate_is_either may_become by_model
