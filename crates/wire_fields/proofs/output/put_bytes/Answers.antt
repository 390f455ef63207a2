use Rattle.wire_fields.proofs.Fronts.{raw_fits}
use Rattle.wire_fields.proofs.output.put_bytes.Goals as goal

pub returns-clause-fits : goal.returns-clause-fits
returns-clause-fits c = raw_fits c.extend_from_slice.result c.args.bytes.now c.type_inv.bytes
