use Rattle.std.proofs.Common.{rules, OnOk, Result, Ok, Err, ◌≡◌, List, ℕ, sym, ◌∙◌, arith}
use Rattle.store_acts.proofs.Exchanging.{resized_parts, resized_shorter}
use Rattle.store_acts.proofs.pending_area.resize.Goals as goal

shorter : {T E : Type 0} (r : Result T E) (new cut whole : List ℕ) → OnOk r (new ≡ cut) → whole ≡ cut → OnOk r (new ≡ whole)
shorter (Ok x) new cut whole is same = is ∙ sym same
shorter (Err e) new cut whole is same = tt

pub returns-then-len-clause-new : goal.returns-then-len-clause-new
returns-then-len-clause-new c =
    shorter c.split_off.result _ _ _ c.split_off.ensures.items
    (resized_shorter c.args.len c.args.old.now.items (omega (arith, c.if-len.true, c.len.ensures)))

pub returns-clause-new : goal.returns-clause-new
returns-clause-new c = grind (rules, resized_parts c.args.len c.args.old.now.items)
