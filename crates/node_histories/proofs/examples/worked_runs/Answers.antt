use Rattle.std.proofs.Common.{ap}
use Rattle.std.proofs.lemmas.Bool.{false≢true}
use Rattle.node_histories.proofs.examples.worked_runs.Goals as goal

pub returns-clause-it_stays_down : goal.returns-clause-it_stays_down
returns-clause-it_stays_down c = λ h. false≢true (ap (λ w. w.is_up 1) h.comes_to)
