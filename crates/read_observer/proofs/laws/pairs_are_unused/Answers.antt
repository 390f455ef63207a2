use Rattle.read_observer.proofs.Unused.{never_used, unused}
use Rattle.read_observer.proofs.laws.pairs_are_unused.Goals as goal

pub returns : goal.returns
returns g c = λ cluster ss. (unused cluster ss, never_used cluster ss)
