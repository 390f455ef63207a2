use Rattle.number_set.proofs.Members.{is-marked}
use Rattle.number_set.proofs.set.NumberSet.gaps.Goals as goal

pub returns : goal.returns
returns c = rw c.numbers.ensures (is-marked c.self.inside.mark c.self.inside.above c.args.self.now c.self.view_is c.self.invariant)
