use Rattle.wired.proofs.WiredSteps.{wired_runs}
use Rattle.wired.proofs.laws.wired_runs_are_the_same.Goals as goal

pub returns : goal.returns
returns g c = λ stack name m r. wired_runs g.M.Wire.format g.met.M.Wire.is_format stack name m r
