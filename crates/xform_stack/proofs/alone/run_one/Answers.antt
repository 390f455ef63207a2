use Rattle.std.proofs.Common.{◌∙◌}
use Rattle.xform_stack.proofs.Ended.{when-ended}
use Rattle.xform_stack.proofs.alone.run_one.Goals as goal

pub returns-clause-allowed : goal.returns-clause-allowed
returns-clause-allowed g c = rw c.new.ensures at c.run_mapped.ensures.allowed

pub returns-clause-refused : goal.returns-clause-refused
returns-clause-refused g c = rw c.new.ensures at c.run_mapped.ensures.refused

pub returns-clause-image : goal.returns-clause-image
returns-clause-image g c = c.run_mapped.ensures.image

pub returns-clause-trace : goal.returns-clause-trace
returns-clause-trace g c =
    let ran = rw c.new.ensures at c.run_mapped.ensures in
    when-ended c.run_mapped.result ran.allowed ran.trace ran.image
    (λ a allowed traced image. traced ∙ c.is_the_machine.ensures.trace (g.M.Machine.meaning c.args.machine) c.args.steps.now allowed)
