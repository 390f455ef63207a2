use Rattle.seqnum_xform.proofs.SeenLaws.{seen-itself, seen-other}
use Rattle.seqnum_xform.proofs.seen_law.seen_is_noted.Goals as goal

pub returns-clause-itself : goal.returns-clause-itself
returns-clause-itself c = seen-itself

pub returns-clause-others : goal.returns-clause-others
returns-clause-others c = seen-other
