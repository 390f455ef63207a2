use Rattle.std.proofs.Common.{◌≡◌, ◌+◌, ◌≤◌, ◌++◌, length}
use Rattle.retry_xform.specs.Keeping.{AreBelow, numbered_from}
use Rattle.retry_xform.specs.Retransmission.{all_as_data}
use Rattle.retry_xform.proofs.hand_on.sends.Given as goal

abbrev pub invariant-loop-to : goal.invariant-loop-to
invariant-loop-to g l =
    let rest = l.to-iterator.rest.items in
    let all = l.initial.to-iterator.rest.items in
    record {
      sends : l.effects.sends ++ all_as_data (numbered_from l.next rest) ≡ l.initial.effects.sends ++ all_as_data (numbered_from l.initial.next all);
      kept : l.kept ++ numbered_from l.next rest ≡ l.initial.kept ++ numbered_from l.initial.next all;
      next : l.next + length rest ≡ l.initial.next + length all;
      room : length rest ≤ l.effects.send_places;
      room_left : l.initial.effects.send_places + length rest ≤ l.effects.send_places + length all;
      unused : AreBelow l.next l.kept;
      outputs : l.effects.outputs ≡ l.initial.effects.outputs;
    }
