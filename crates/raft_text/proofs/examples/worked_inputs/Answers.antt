-- Texts with numbers, computed through their digits.
use Rattle.std.specs.Prelude.{refl}
use Rattle.std.specs.Fmt.{digits}
use Rattle.raft_text.proofs.examples.worked_inputs.Goals as goal

pub returns-clause-get : goal.returns-clause-get
unfolding digits
returns-clause-get c = (refl, refl)

pub returns-clause-put : goal.returns-clause-put
unfolding digits
returns-clause-put c = (refl, refl)

pub returns-clause-del : goal.returns-clause-del
unfolding digits
returns-clause-del c = (refl, refl)

pub returns-clause-cas : goal.returns-clause-cas
unfolding digits
returns-clause-cas c = (refl, refl)

pub returns-clause-cad : goal.returns-clause-cad
unfolding digits
returns-clause-cad c = (refl, refl)

pub returns-clause-greatest : goal.returns-clause-greatest
unfolding digits
returns-clause-greatest c = (refl, refl)

pub returns-clause-order : goal.returns-clause-order
unfolding digits
returns-clause-order c = refl
