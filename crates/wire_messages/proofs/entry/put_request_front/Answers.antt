use Rattle.std.proofs.Common.{rules}
use Rattle.wire_fields.specs.Bytes.{number_bytes}
use Rattle.wire_messages.proofs.entry.put_request_front.Goals as goal

pub returns-clause-ok : goal.returns-clause-ok
unfolding number_bytes
returns-clause-ok c =
    let added = rw (c.write_u64-3.ensures, c.write_u64-2.ensures, c.write_u64.ensures) at c.extend_from_slice.ensures.items in
    search rules
