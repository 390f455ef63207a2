use Rattle.std.proofs.Common.{◌∷◌, [], ◌++◌, ap, arith, ◌∙◌}
use Rattle.seqnum_xform.specs.Numbering.{with_seen}
use Rattle.seqnum_xform.proofs.Senders.{with_seen-reached}
use Rattle.seqnum_xform.proofs.seen.reach.Goals as goal

pub loop-alloc-preserved : goal.loop-alloc-preserved
loop-alloc-preserved c = λ n.
    ap (λ ss. with_seen ss c.args.sender n) (c.in_ok-push.ensures.items ∙ ap (λ s. c.loop-alloc.senders.items ++ s ∷ []) c.new.ensures)
    ∙ (with_seen-reached c.loop-alloc.senders.items c.args.sender n (omega arith) ∙ c.loop-alloc.invariant n)
