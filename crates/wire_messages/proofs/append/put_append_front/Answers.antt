use Rattle.std.proofs.Common.{rules}
use Rattle.wire_fields.specs.Bytes.{number_bytes}
use Rattle.wire_messages.proofs.append.put_append_front.Goals as goal

pub returns-clause-ok : goal.returns-clause-ok
unfolding number_bytes
returns-clause-ok c =
    let added = rw c.write.ensures at c.extend_from_slice.ensures.items in
    search rules
