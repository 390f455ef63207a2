use Rattle.wired.proofs.BothSteps.{both_runs}
use Rattle.wired.proofs.laws.bytes_run_the_same.Goals as goal

pub returns : goal.returns
returns g c = λ h stack name m r. both_runs g.M.Wire.format g.met.M.Wire.is_format stack name (g.H.Saves.saving h stack name) (g.met.H.Saves.reads_back h stack name) m r
