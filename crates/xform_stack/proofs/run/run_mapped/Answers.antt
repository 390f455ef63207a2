use Rattle.std.proofs.Common.{refl}
use Rattle.xform_stack.proofs.run.run_mapped.Goals as goal

pub run_on-requires-clause-started : goal.run_on-requires-clause-started
run_on-requires-clause-started g c = record { followed = c.in-Ok.ensures.first; allowed = refl; counted = c.in-Ok.ensures.taken }

pub returns-clause-allowed : goal.returns-clause-allowed
returns-clause-allowed g c = rw (c.in-Ok.ensures.net, c.in-Ok.ensures.handlers) at c.run_on.ensures.allowed

pub returns-clause-trace : goal.returns-clause-trace
returns-clause-trace g c = rw c.in-Ok.ensures.handlers at c.run_on.ensures.trace

pub returns-clause-image : goal.returns-clause-image
returns-clause-image g c = rw c.in-Ok.ensures.handlers at c.run_on.ensures.image

pub returns-clause-refused : goal.returns-clause-refused
returns-clause-refused g c = rw (c.in-Ok.ensures.net, c.in-Ok.ensures.handlers) at c.run_on.ensures.refused
