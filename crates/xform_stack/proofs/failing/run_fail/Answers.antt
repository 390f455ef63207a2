use Rattle.std.proofs.Common.{refl, ◌∙◌}
use Rattle.xform_stack.proofs.Clusters.{if-linearizable}
use Rattle.xform_stack.proofs.failing.run_fail.Goals as goal

pub run_on-requires-clause-started : goal.run_on-requires-clause-started
run_on-requires-clause-started g c =
    let new = c.in-Ok.ensures in
    record { followed = rw new.handlers (rw new.handlers at new.first); allowed = refl; counted = new.taken }

pub run_on-requires-clause-fits : goal.run_on-requires-clause-fits
run_on-requires-clause-fits g c = (rw (c.in-Ok.ensures.handlers ∙ c.new.ensures) c.requires.size, refl)

pub returns-clause-allowed : goal.returns-clause-allowed
returns-clause-allowed g c = rw (c.in-Ok.ensures.handlers ∙ c.new.ensures) at c.run_on.ensures.allowed

pub returns-clause-trace : goal.returns-clause-trace
returns-clause-trace g c = rw (c.in-Ok.ensures.handlers ∙ c.new.ensures) at c.run_on.ensures.trace

pub returns-clause-image : goal.returns-clause-image
returns-clause-image g c = rw (c.in-Ok.ensures.handlers ∙ c.new.ensures) at c.run_on.ensures.image

pub returns-clause-linearizable : goal.returns-clause-linearizable
returns-clause-linearizable g c =
    let same = c.in-Ok.ensures.handlers ∙ c.new.ensures in
    let ran = c.run_on.ensures in
    if-linearizable (g.M.Machine.meaning c.args.machine) c.args.nodes c.args.steps.now c.run_on.result c.laws.ensures.linearizable c.requires.size (rw same at ran.allowed) (rw same at ran.trace) (rw same at ran.image)

pub returns-clause-refused : goal.returns-clause-refused
returns-clause-refused g c = rw (c.in-Ok.ensures.handlers ∙ c.new.ensures) at c.run_on.ensures.refused
