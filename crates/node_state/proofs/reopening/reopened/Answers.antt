use Rattle.std.proofs.Common.{slice_index_or}
use Rattle.store_acts.specs.PendingAreas.{image_of}
use Rattle.node_state.proofs.Reopenings.{one_of, opened_one}
use Rattle.node_state.proofs.reopening.reopened.Goals as goal

pub returns-in-Ok-clause-opened : goal.returns-in-Ok-clause-opened
returns-in-Ok-clause-opened g c =
    let one = one_of c.args.image.now.selector.items c.as_slice.result.now c.as_slice.ensures.value c.in-len1.len_at_least c.in-len1.len_below in
    opened_one g.C.Commands.stack g.C.Wire.format c.args.who.now (image_of c.args.image.now) (slice_index_or c.as_slice.result.now 0 0) c.slot-slot.result.now c.in-Ok.store c.in-Ok.kept one
    c.slot-slot.ensures (rw c.in-Ok.is at c.in_ok-acts-in-len1.ensures.found)
