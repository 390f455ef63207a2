use Rattle.std.proofs.lemmas.Result.{on_ok_weaker}
use Rattle.stacks.proofs.read_run.ReadRunRuns.step.Goals as goal

pub returns-clause-next : goal.returns-clause-next
returns-clause-next g c =
    on_ok_weaker c.step.result (λ next ss gone has.
    let more = next ss gone (record { followed = has.followed; traced = has.traced; allowed = has.allowed; counted = has.counted }) in
    record { followed = more.followed; traced = more.traced; allowed = more.allowed; counted = more.counted }) c.step.ensures.next
