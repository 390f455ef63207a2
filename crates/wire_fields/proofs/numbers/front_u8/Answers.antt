use Rattle.std.proofs.Common.{arith, slice_index}
use Rattle.wire_fields.proofs.Fronts.{number_there}
use Rattle.wire_fields.proofs.numbers.front_u8.Goals as goal

pub returns-clause-value : goal.returns-clause-value
returns-clause-value c = number_there 1 c.args.low c.args.high (slice_index c.args.bytes.now 0) c.args.bytes.now (omega arith) c.type_inv.bytes (omega arith) (omega arith) (omega arith)
