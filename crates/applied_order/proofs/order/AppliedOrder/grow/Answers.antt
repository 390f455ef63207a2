use Rattle.std.proofs.Common.{◌<◌, ◌≤◌, length, arith}
use Rattle.applied_order.proofs.CatchingUp.{caught_all, caught_more}
use Rattle.applied_order.proofs.order.AppliedOrder.grow.Goals as goal

pub loop-i-preserved : goal.loop-i-preserved
loop-i-preserved g c =
    let xs = c.args.applied.now in
    let i = c.loop-i.i in
    let start = c.entries-i.ensures in
    let from : c.args.self.now.entries ≤ i = omega arith in
    let below : i < length xs = omega arith in
    caught_more c.args.self.now c.loop-i.self xs i c.loop-i.invariant
    c.add.new.self c.index-applied-i.result from below c.index-applied-i.is c.in_ok-add.ensures.entries c.in_ok-add.ensures.followed

pub returns : goal.returns
returns g c = λ all es begins applied had.
    let start = c.entries-i.ensures in
    caught_all c.args.self.now c.loop-i.self c.args.applied.now c.loop-i.i c.loop-i.invariant es all (λ lags. omega arith) begins applied had
