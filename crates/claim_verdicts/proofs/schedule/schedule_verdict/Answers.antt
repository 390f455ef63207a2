use Rattle.std.proofs.Common.{refl}
use Rattle.claim_verdicts.proofs.schedule.schedule_verdict.Goals as goal

pub verdict_by_run-requires-clause-started : goal.verdict_by_run-requires-clause-started
verdict_by_run-requires-clause-started g c =
    let new = c.in_ok-world.ensures in
    record { followed = new.first; allowed = refl; counted = new.taken }

pub returns : goal.returns
returns g c = rw (c.in_ok-world.ensures.net, c.in_ok-world.ensures.handlers) at c.verdict_by_run.ensures
