use Rattle.std.proofs.Common.{◌≡◌, ℕ, ◌+◌, ◌-◌, length}
use Rattle.seqnum_xform.specs.Numbering.{with_seen}
use Rattle.seqnum_xform.proofs.seen.reach.Given as goal

abbrev pub invariant-loop-alloc : goal.invariant-loop-alloc
invariant-loop-alloc l = (n : ℕ) → with_seen l.senders.items l.sender n ≡ with_seen l.initial.senders.items l.sender n

abbrev pub decreases-loop-alloc : goal.decreases-loop-alloc
decreases-loop-alloc l = l.sender + 1 - length l.senders.items
