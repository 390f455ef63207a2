use Rattle.std.proofs.Common.{◌-◌, ◌^◌, ◌≤◌, ◌∙◌, arith}
use Rattle.node_device_mem.proofs.Lengths.{counts_all}
use Rattle.node_device_mem.proofs.history.History.acts.Goals as goal

pub returns : goal.returns
returns c =
    let history = c.args.self.now in
    let small : history.nows ≤ 2 ^ 64 - 1 = omega arith in
    rw c.deref.ensures.value at c.count_on.ensures ∙ counts_all history.clock.items history.past.items history.from history.nows small
