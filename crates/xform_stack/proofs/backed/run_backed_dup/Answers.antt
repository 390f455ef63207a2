use Rattle.net_semantics.specs.Once.{once}
use Rattle.primary_backup.specs.Backup.{primary_backup}
use Rattle.xform_stack.proofs.Ended.{when-ended}
use Rattle.xform_stack.proofs.backed.run_backed_dup.Goals as goal

pub returns-clause-allowed : goal.returns-clause-allowed
returns-clause-allowed g c = rw (c.new-2.ensures, c.new.ensures) at c.run_mapped.ensures.allowed

pub returns-clause-trace : goal.returns-clause-trace
returns-clause-trace g c = rw (c.new-2.ensures, c.new.ensures) at c.run_mapped.ensures.trace

pub returns-clause-refused : goal.returns-clause-refused
returns-clause-refused g c = rw (c.new-2.ensures, c.new.ensures) at c.run_mapped.ensures.refused

pub returns-clause-image : goal.returns-clause-image
returns-clause-image g c =
    let ran = rw (c.new-2.ensures, c.new.ensures) at c.run_mapped.ensures in
    when-ended c.run_mapped.result ran.allowed ran.trace ran.image (λ a allowed traced image. rw traced image)

pub returns-clause-explained : goal.returns-clause-explained
returns-clause-explained g c =
    let ran = rw (c.new-2.ensures, c.new.ensures) at c.run_mapped.ensures in
    let m = g.M.Machine.meaning c.args.machine in
    let ss = c.args.steps.now in
    let same = c.repeats_do_nothing.ensures in
    when-ended c.run_mapped.result ran.allowed ran.trace ran.image
    (λ a allowed traced image. rw (traced, same.same_trace (primary_backup m) ss allowed)
    (c.one_machine_explains.ensures.explained m (once ss) (same.allowed (primary_backup m) ss allowed)))
