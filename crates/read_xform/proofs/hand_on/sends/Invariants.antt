use Rattle.std.proofs.Common.{◌≡◌, ◌≤◌, ◌++◌, length, map}
use Rattle.raft_reads.specs.ReadRaft.{with_round}
use Rattle.read_xform.proofs.hand_on.sends.Given as goal

abbrev pub invariant-loop-to : goal.invariant-loop-to
invariant-loop-to g l = record {
  sends : l.effects.sends ++ map (with_round l.rounds.own l.rounds.term l.rounds.heard) l.to-iterator.rest.items
      ≡ l.initial.effects.sends ++ map (with_round l.rounds.own l.rounds.term l.rounds.heard) l.initial.to-iterator.rest.items;
  room : length l.to-iterator.rest.items ≤ l.effects.send_places;
  outputs : l.effects.outputs ≡ l.initial.effects.outputs;
}
