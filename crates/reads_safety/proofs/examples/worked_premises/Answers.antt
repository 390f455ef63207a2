use Rattle.std.proofs.Common.{◌≡◌, refl, arith}
use Rattle.std.proofs.lemmas.Bool.{eqb-true}
use Rattle.reads_safety.proofs.examples.worked_premises.Goals as goal

pub returns-clause-reads_leave : goal.returns-clause-reads_leave
returns-clause-reads_leave c = λ s x e. omega (arith, eqb-true x 0 e)

pub returns-clause-not_from_beyond_the_bound : goal.returns-clause-not_from_beyond_the_bound
returns-clause-not_from_beyond_the_bound c = λ h. let e : 255 ≡ 256 = h 256 0 refl in absurd (omega (arith, e))

pub returns-clause-adding_five_does_not : goal.returns-clause-adding_five_does_not
returns-clause-adding_five_does_not c = λ h. cc (h 0 5 refl)
