use Rattle.std.proofs.Common.{sym, arith, drop, length-drop}
use Rattle.claim_verdicts.proofs.Comparing.{left-over}
use Rattle.claim_verdicts.proofs.comparison.Comparison.difference.Goals as goal

pub returns-in-SameSoFar-clause-first : goal.returns-in-SameSoFar-clause-first
returns-in-SameSoFar-clause-first c = λ claimed many.
    let place = c.in-SameSoFar.place in
    rw c.in-SameSoFar.is (sym (left-over place (drop place claimed) (omega (arith, length-drop place claimed, many, c.if-place-many.true))))
