use Rattle.std.proofs.Common.{arith}
use Rattle.number_set.proofs.Strips.{moved-front}
use Rattle.number_set.proofs.strip.move_front.Goals as goal

pub returns-clause-numbers : goal.returns-clause-numbers
returns-clause-numbers c = moved-front c.args.places.now _ c.args.start c.args.i _ c.args.n c.requires (omega arith) c.rotate_left.ensures.after
