use Rattle.raft_clients.proofs.Found.{Found}
use Rattle.raft_clients.proofs.places.executed.Given as goal

abbrev pub invariant-loop-place : goal.invariant-loop-place
invariant-loop-place g l = Found l.entries l.place l.places.items l.last
