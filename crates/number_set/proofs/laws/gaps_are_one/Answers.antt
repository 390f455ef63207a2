use Rattle.number_set.proofs.Marks.{one-list, one-mark}
use Rattle.number_set.proofs.laws.gaps_are_one.Goals as goal

pub returns-clause-mark : goal.returns-clause-mark
returns-clause-mark c = one-mark

pub returns-clause-above : goal.returns-clause-above
returns-clause-above c = one-list
