use Rattle.std.proofs.Common.{◌<◌, length, ap, sym, ◌∙◌, arith, get_or}
use Rattle.std.proofs.lemmas.Bool.{cond-true, cond-false}
use Rattle.store_acts.specs.PendingAreas.{area_of}
use Rattle.store_acts.proofs.Tearing.{torn_more}
use Rattle.store_acts.proofs.pending_area.PendingArea.torn.Goals as goal
use Rattle.store_acts.proofs.pending_area.PendingArea.torn.Goals.{then-is_pending, else-is_pending}

pub loop-i-preserved : goal.loop-i-preserved
loop-i-preserved c =
    let some : c.loop-i.i < length c.args.self.now.bytes.items = omega arith in
    torn_more c.args.byte c.loop-i.i c.if-is_pending.push (area_of c.args.self.now) c.loop-i.torn.items c.push.new.self.items some c.loop-i.invariant c.in_ok-push.ensures.items
    (elim c.if-is_pending.branch [
      | then-is_pending w ↦ w.push-is ∙ sym (cond-true _ _ _ (sym c.is_pending.ensures ∙ w.if-is_pending.true))
      | else-is_pending w ↦ w.push-is ∙ (ap (λ xs. get_or xs c.loop-i.i 0) c.deref-read-items.ensures.value ∙ sym (cond-false _ _ _ (sym c.is_pending.ensures ∙ w.if-is_pending.false)))
    ])
