use Rattle.std.proofs.Common.{arith}
use Rattle.wire_fields.proofs.Fronts.{number_there}
use Rattle.wire_fields.proofs.numbers.front_u64.Goals as goal

pub returns-clause-value : goal.returns-clause-value
returns-clause-value c = number_there 8 c.args.low c.args.high (c.read_u64-x.result) c.args.bytes.now (omega arith) c.type_inv.bytes c.read_u64-x.ensures (omega arith) (omega arith)
