use Rattle.std.proofs.Common.{◌≡◌, [], ◌∷◌, ◌++◌, length, ap, ◌∙◌, arith}
use Rattle.store_acts.proofs.Exchanging.{stood_on, takes_cut_back}
use Rattle.store_acts.specs.declared.pending_area.Undo.{Undo}
use Rattle.store_acts.proofs.pending_area.PendingArea.cut.Goals as goal

pub returns-clause-stood : goal.returns-clause-stood
returns-clause-stood c =
    let len : c.len-old_len.result ≡ length c.args.self.now.bytes.items = omega arith in
    let undo : Undo = record { len = c.len-old_len.result; at = c.args.len; over = c.in_ok-over.over; wrote = _ } in
    stood_on c.args.self.now.undos.items _ undo c.args.self.now.bytes.items _
    (c.in_ok-push.ensures.items ∙ ap (λ us. us ++ undo ∷ []) c.reserve.ensures.items)
    (takes_cut_back undo c.args.self.now.bytes.items _ len c.in_ok-over.ensures.new c.in_ok-over.ensures.over)
