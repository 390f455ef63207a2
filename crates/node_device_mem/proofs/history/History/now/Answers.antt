use Rattle.std.proofs.Common.{◌-◌, ◌^◌, ◌≤◌, arith}
use Rattle.std.proofs.lemmas.Grind.{common_steps}
use Rattle.node_device_mem.proofs.ClockValues.{tells_no_more, tells_on}
use Rattle.node_device_mem.proofs.Following.{now_more}
use Rattle.node_device_mem.proofs.history.History.now.Goals as goal

pub returns-then-self-clause-tells : goal.returns-then-self-clause-tells
returns-then-self-clause-tells c =
    let old = c.args.self.now in
    let many : 2 ^ 64 - 1 ≤ old.nows = grind (arith, common_steps) in
    λ disk. tells_no_more old.is_full old.clock.items old.past.items old.from old.nows disk many

pub returns-else-self-clause-acts : goal.returns-else-self-clause-acts
returns-else-self-clause-acts c =
    let old = c.args.self.now in
    now_more old.is_full old.clock.items old.past.items old.from old.nows c.value_at-value.result
    (rw c.deref.ensures.value at c.value_at-value.ensures)

pub returns-else-self-clause-tells : goal.returns-else-self-clause-tells
returns-else-self-clause-tells c =
    let old = c.args.self.now in
    λ disk. tells_on old.is_full old.clock.items old.past.items old.from old.nows disk
