use Rattle.std.proofs.lemmas.Result.{IfOk-weaker}
use Rattle.stacks.proofs.read_run.ReadRunRuns.finish.Goals as goal

pub returns-clause-image : goal.returns-clause-image
returns-clause-image g c =
    IfOk-weaker c.finish.result _ _ (λ ran image ss gone has. image ss gone (record { followed = has.followed; traced = has.traced; allowed = has.allowed; counted = has.counted })) c.finish.ensures.image
