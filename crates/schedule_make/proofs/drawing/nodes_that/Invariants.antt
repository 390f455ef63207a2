use Rattle.std.proofs.Common.{◌≡◌, List}
use Rattle.std.specs.List.{filter, range_with_len}
use Rattle.vst_base.specs.declared.step.Step.{Step}
use Rattle.xform_stack.specs.Systems.{world_of}
use Rattle.schedule_make.specs.Candidates.{may_act}
use Rattle.schedule_make.proofs.drawing.nodes_that.Given as goal

-- of the nodes so far those were found
abbrev pub invariant-loop-n : goal.invariant-loop-n
invariant-loop-n g l =
    let r = g.W.Network in
    (ss : List (Step g.row.H-Input.Denot)) → r.follows l.network ss
    → l.found.items ≡ filter (may_act (r.system l.network).meaning (world_of (r.system l.network) ss) l.kind) (range_with_len 0 l.n)
