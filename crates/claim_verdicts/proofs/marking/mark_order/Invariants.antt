use Rattle.std.proofs.Common.{◌≡◌, take}
use Rattle.claim_verdicts.specs.Marks.{marks_of}
use Rattle.claim_verdicts.proofs.FirstInputs.{Reaches}
use Rattle.claim_verdicts.proofs.marking.mark_order.Given as goal

-- the marks are those of what clients saw so far
abbrev pub invariant-loop-item : goal.invariant-loop-item
invariant-loop-item g l =
    record {
      marks : l.marks.items ≡ marks_of g.A.AppText.input_text (take l.item-index l.trace) l.order;
      reaches : Reaches g.A.AppText.input_text l.most l.order (take l.item-index l.trace);
    }
