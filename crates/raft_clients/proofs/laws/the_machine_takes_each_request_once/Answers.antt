use Rattle.raft_clients.proofs.Once.{applied-answers, applied-append, applied-sessions, applied-state}
use Rattle.raft_clients.proofs.laws.the_machine_takes_each_request_once.Goals as goal

pub returns-clause-state : goal.returns-clause-state
returns-clause-state g c = applied-state

pub returns-clause-sessions : goal.returns-clause-sessions
returns-clause-sessions g c = applied-sessions

pub returns-clause-answers : goal.returns-clause-answers
returns-clause-answers g c = applied-answers

pub returns-clause-in_parts : goal.returns-clause-in_parts
returns-clause-in_parts g c = applied-append
