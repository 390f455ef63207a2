use Rattle.std.proofs.Common.{arith, refl}
use Rattle.net_semantics.proofs.pins.order_and_loss.Goals as goal

pub returns-clause-out_of_order : goal.returns-clause-out_of_order
returns-clause-out_of_order c = λ order. absurd (omega (arith, order 0 1 (record { before = omega arith; same = refl; copy = omega arith })))
