use Rattle.mirror.proofs.Saying.{mirrors}
use Rattle.mirror.proofs.laws.said_is_a_prefix.Goals as goal

pub returns : goal.returns
returns c = mirrors
