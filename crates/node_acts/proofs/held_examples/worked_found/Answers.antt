-- What was found, rewritten as version 2 in the other slot.
use Rattle.std.proofs.Common.{[], Some, refl, inl, inr}
use Rattle.node_acts.specs.Examples.{state}
use Rattle.node_body.specs.Journals as journals
use Rattle.wire_fields.specs.Bytes as bytes
use Rattle.node_acts.proofs.held_examples.worked_found.Goals as goal

pub returns-clause-renewed : goal.returns-clause-renewed
unfolding bytes.read_number bytes.has_bytes bytes.number_in journals.from_gate
returns-clause-renewed c = inr (inl (state 1 (Some 1) [], 0, refl, (1, refl)))
