use Rattle.seqnum_xform.proofs.SeenLaws.{seen_of-has}
use Rattle.seqnum_xform.proofs.seen_law.seen_of_a_sender.Goals as goal

pub returns : goal.returns
returns c = seen_of-has
