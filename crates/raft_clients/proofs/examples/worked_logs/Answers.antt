-- Each row by what a map has at a number after a change.
use Rattle.raft_clients.proofs.Lookups.{lookups}
use Rattle.raft_clients.proofs.examples.worked_logs.Goals as goal

pub returns-clause-state : goal.returns-clause-state
returns-clause-state c = simp lookups

pub returns-clause-answers : goal.returns-clause-answers
returns-clause-answers c = simp lookups
