-- Numbers in keys and values, computed through their digits.
use Rattle.std.specs.Prelude.{refl}
use Rattle.std.specs.Fmt.{digits}
use Rattle.schedule_make.proofs.examples.worked_inputs.Goals as goal

pub returns-clause-put : goal.returns-clause-put
unfolding digits
returns-clause-put c = refl

pub returns-clause-cas : goal.returns-clause-cas
unfolding digits
returns-clause-cas c = refl

pub returns-clause-get : goal.returns-clause-get
unfolding digits
returns-clause-get c = refl

pub returns-clause-del : goal.returns-clause-del
unfolding digits
returns-clause-del c = refl

pub returns-clause-release : goal.returns-clause-release
unfolding digits
returns-clause-release c = refl

pub returns-clause-acquire : goal.returns-clause-acquire
unfolding digits
returns-clause-acquire c = refl

pub returns-clause-holder : goal.returns-clause-holder
unfolding digits
returns-clause-holder c = refl

pub returns-clause-put_for_the_mirror : goal.returns-clause-put_for_the_mirror
unfolding digits
returns-clause-put_for_the_mirror c = refl

pub returns-clause-of_any_word : goal.returns-clause-of_any_word
unfolding digits
returns-clause-of_any_word c = refl

pub returns-clause-of_a_later_place : goal.returns-clause-of_a_later_place
unfolding digits
returns-clause-of_a_later_place c = refl
