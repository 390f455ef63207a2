use Rattle.std.proofs.Common.{◌∙◌}
use Rattle.xform_stack.proofs.Ended.{when-ended}
use Rattle.xform_stack.proofs.run.run_dup.Goals as goal

pub returns-clause-allowed : goal.returns-clause-allowed
returns-clause-allowed g c = rw c.new.ensures at c.run_mapped.ensures.allowed

pub returns-clause-trace : goal.returns-clause-trace
returns-clause-trace g c = rw c.new.ensures at c.run_mapped.ensures.trace

pub returns-clause-image : goal.returns-clause-image
returns-clause-image g c = c.run_mapped.ensures.image

pub returns-clause-refused : goal.returns-clause-refused
returns-clause-refused g c = rw c.new.ensures at c.run_mapped.ensures.refused

pub returns-clause-image_allowed : goal.returns-clause-image_allowed
returns-clause-image_allowed g c =
    let ran = rw c.new.ensures at c.run_mapped.ensures in
    when-ended c.run_mapped.result ran.allowed ran.trace ran.image
    (λ a allowed traced image. rw image (c.repeats_do_nothing.ensures.allowed (g.H.Handlers.meaning c.args.handlers) c.args.steps.now allowed))

pub returns-clause-same_under_image : goal.returns-clause-same_under_image
returns-clause-same_under_image g c =
    let ran = rw c.new.ensures at c.run_mapped.ensures in
    when-ended c.run_mapped.result ran.allowed ran.trace ran.image
    (λ a allowed traced image. rw image (traced ∙ c.repeats_do_nothing.ensures.same_trace (g.H.Handlers.meaning c.args.handlers) c.args.steps.now allowed))
