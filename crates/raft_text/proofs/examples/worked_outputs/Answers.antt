-- Texts with numbers, computed through their digits.
use Rattle.std.specs.Prelude.{refl}
use Rattle.std.specs.Fmt.{digits}
use Rattle.raft_text.proofs.examples.worked_outputs.Goals as goal

pub returns-clause-reply : goal.returns-clause-reply
unfolding digits
returns-clause-reply c = (refl, refl)

pub returns-clause-notleader : goal.returns-clause-notleader
unfolding digits
returns-clause-notleader c = (refl, refl)

pub returns-clause-full : goal.returns-clause-full
unfolding digits
returns-clause-full c = (refl, refl)

pub returns-clause-greatest : goal.returns-clause-greatest
unfolding digits
returns-clause-greatest c = (refl, refl)
