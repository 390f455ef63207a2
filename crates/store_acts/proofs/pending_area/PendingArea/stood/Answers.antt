use Rattle.std.proofs.Common.{◌≡◌, sym, ap, ◌∙◌, rules}
use Rattle.disk.specs.Disk.{resized}
use Rattle.store_acts.specs.PendingAreas.{undone}
use Rattle.store_acts.proofs.Exchanging.{resized_parts, stood_on}
use Rattle.store_acts.proofs.pending_area.PendingArea.stood.Goals as goal

pub loop-undo-preserved : goal.loop-undo-preserved
loop-undo-preserved c =
    let at = c.loop-undo in
    let undo = c.in-Some.undo in
    let cut : c.resize.new.self.items ≡ resized undo.len c.overwrite.new.old.items = grind (rules, resized_parts undo.len c.overwrite.new.old.items) in
    let back : undone undo at.bytes.items ≡ c.resize.new.self.items = sym (cut ∙ ap (resized undo.len) c.in_ok-overwrite.ensures.new) in
    sym (stood_on c.pop.new.self.items at.undos.items undo c.resize.new.self.items at.bytes.items c.in-Some.ensures.items back) ∙ at.invariant
