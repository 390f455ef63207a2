use Rattle.std.specs.FinMap.{get-empty}
use Rattle.wire_fields.specs.Bytes.{has_bytes, number_bytes, number_in, read_number}
use Rattle.wired.proofs.read_examples.worked_readers.Goals as goal

pub returns-clause-put_and_read : goal.returns-clause-put_and_read
unfolding has_bytes number_bytes number_in read_number
returns-clause-put_and_read c = simp (get-empty)
