-- Ten packets are more than nine.
use Rattle.std.proofs.Common.{arith}
use Rattle.made_schedules.proofs.line_examples.worked_sends.Goals as goal

pub returns-clause-ten : goal.returns-clause-ten
returns-clause-ten c = λ few. omega (arith, few.timeout 0 0)
