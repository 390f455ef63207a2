use Rattle.std.proofs.Common.{arith}
use Rattle.line_reader.proofs.Lasts.{last-of-none}
use Rattle.line_reader.proofs.ahead.Ahead.new.Goals as goal

pub invariant_of-result : goal.invariant_of-result
invariant_of-result c = (omega arith, omega arith, last-of-none 10)
