use Rattle.std.proofs.Common.{◌≡◌, ◌+◌, ◌<◌, ◌≤◌, ◌++◌}
use Rattle.raft_xform.specs.Sending.{append, to_others}
use Rattle.raft_xform.proofs.sending.append_to_others.Given as goal

-- there is a place for each node that is left, but for this one
abbrev pub invariant-loop-n : goal.invariant-loop-n
invariant-loop-n g l = record {
  sends : l.effects.sends ≡ l.initial.effects.sends ++ to_others l.n l.seat.me (append l.state);
  outputs : l.effects.outputs ≡ l.initial.effects.outputs;
  up_to_it : l.n ≤ l.seat.me → l.seat.nodes ≤ l.effects.send_places + l.n + 1;
  past_it : l.seat.me < l.n → l.seat.nodes ≤ l.effects.send_places + l.n;
}
