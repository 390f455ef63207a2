use Rattle.applied_order.proofs.Adding.{followed_none}
use Rattle.applied_order.proofs.order.AppliedOrder.new.Goals as goal

pub returns : goal.returns
returns g c = rw (c.new.ensures, c.new-2.ensures.items, c.new-3.ensures.items) followed_none
