use Rattle.std.proofs.Common.{arith}
use Rattle.wire_fields.proofs.Fronts.{raw_there}
use Rattle.wire_fields.proofs.name.front_bytes.Goals as goal

pub returns : goal.returns
returns c = raw_there c.args.count c.args.bytes.now (omega arith) c.type_inv.bytes
