use Rattle.applied_order.proofs.CatchingUp.{CaughtUp}
use Rattle.applied_order.proofs.order.AppliedOrder.grow.Given as goal

abbrev pub invariant-loop-i : goal.invariant-loop-i
invariant-loop-i g l = CaughtUp l.initial.self l.self l.applied l.i
