use Rattle.std.proofs.Common.{◌<◌, ◌≤◌, length, sym, ◌∙◌, arith}
use Rattle.store_acts.specs.PendingAreas.{last_first}
use Rattle.store_acts.proofs.Reaching.{before_the_end, past_the_end}
use Rattle.store_acts.proofs.pending_area.PendingArea.is_pending.Goals as goal

pub returns-then-len-place : goal.returns-then-len-place
returns-then-len-place c =
    let h : length c.args.self.now.bytes.items ≤ c.args.place = omega (arith, c.if-len-place.true, c.len.ensures) in
    sym (past_the_end (length c.args.self.now.bytes.items) (last_first c.args.self.now) c.args.place h)

pub returns : goal.returns
returns c =
    let h : c.args.place < length c.args.self.now.bytes.items = omega (arith, c.if-len-place.false) in
    rw c.deref.ensures.value at c.any_reaches.ensures ∙ sym (before_the_end (length c.args.self.now.bytes.items) c.args.self.now.undos.items c.args.place h)
