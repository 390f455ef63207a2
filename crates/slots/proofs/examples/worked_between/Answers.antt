use Rattle.disk.specs.Between.{may_become_between}
use Rattle.disk.proofs.Between.{by_between}
use Rattle.slots.proofs.Worked.{any_gate_is_either}
use Rattle.slots.proofs.examples.worked_between.Goals as goal

pub returns-clause-any_gate : goal.returns-clause-any_gate
returns-clause-any_gate c = any_gate_is_either may_become_between by_between
