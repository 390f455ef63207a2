use Rattle.std.proofs.Common.{arith}
use Rattle.line_reader.proofs.Lasts.{last-of-none}
use Rattle.line_reader.proofs.ahead.Ahead.clear.Goals as goal

pub invariant_of-self : goal.invariant_of-self
invariant_of-self c = (omega arith, omega arith, last-of-none 10)
