use Rattle.claim_verdicts.proofs.comparison.Comparison.after.Goals as goal

pub returns-in-SameSoFar-clause-tells : goal.returns-in-SameSoFar-clause-tells
returns-in-SameSoFar-clause-tells g c = rw c.in-SameSoFar.is c.compare_from.ensures.tells
