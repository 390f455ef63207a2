use Rattle.fifo_xform.proofs.Lookups.{lookups}
use Rattle.fifo_xform.proofs.examples.worked_numbers.Goals as goal

pub returns-clause-nothing_ready : goal.returns-clause-nothing_ready
returns-clause-nothing_ready c = simp lookups

pub returns-clause-early_is_not_ready : goal.returns-clause-early_is_not_ready
returns-clause-early_is_not_ready c = simp lookups

pub returns-clause-ready_once_passed : goal.returns-clause-ready_once_passed
returns-clause-ready_once_passed c = simp lookups

pub returns-clause-not_of_another_sender : goal.returns-clause-not_of_another_sender
returns-clause-not_of_another_sender c = simp lookups

pub returns-clause-least_sender : goal.returns-clause-least_sender
returns-clause-least_sender c = simp lookups
