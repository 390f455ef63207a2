use Rattle.wired.proofs.SavedSteps.{saved_runs}
use Rattle.wired.proofs.laws.saved_runs_are_the_same.Goals as goal

pub returns : goal.returns
returns g c = λ h stack name m r. saved_runs (g.H.Saves.saving h stack name) (g.met.H.Saves.reads_back h stack name) m r
