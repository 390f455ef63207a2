-- Each row by what a map has at a number after a change.
use Rattle.raft_clients.proofs.Lookups.{lookups}
use Rattle.raft_clients.proofs.examples.worked_answers.Goals as goal

pub returns-clause-first_of_a_client : goal.returns-clause-first_of_a_client
returns-clause-first_of_a_client c = simp lookups

pub returns-clause-first_may_be_zero : goal.returns-clause-first_may_be_zero
returns-clause-first_may_be_zero c = simp lookups

pub returns-clause-next : goal.returns-clause-next
returns-clause-next c = simp lookups

pub returns-clause-numbers_left_out : goal.returns-clause-numbers_left_out
returns-clause-numbers_left_out c = simp lookups

pub returns-clause-repeated : goal.returns-clause-repeated
returns-clause-repeated c = simp lookups

pub returns-clause-repeated_with_another_command : goal.returns-clause-repeated_with_another_command
returns-clause-repeated_with_another_command c = simp lookups

pub returns-clause-lower : goal.returns-clause-lower
returns-clause-lower c = simp lookups
