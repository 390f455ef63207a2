-- Lines with a number, computed through its digits.
use Rattle.std.specs.Prelude.{refl}
use Rattle.std.specs.Fmt.{digits}
use Rattle.schedule_text.proofs.examples.worked_printing.Goals as goal

pub returns-clause-input : goal.returns-clause-input
unfolding digits
returns-clause-input c = refl

pub returns-clause-delivery : goal.returns-clause-delivery
unfolding digits
returns-clause-delivery c = refl

pub returns-clause-tick : goal.returns-clause-tick
unfolding digits
returns-clause-tick c = refl

pub returns-clause-copy : goal.returns-clause-copy
unfolding digits
returns-clause-copy c = refl

pub returns-clause-loss : goal.returns-clause-loss
unfolding digits
returns-clause-loss c = refl

pub returns-clause-crash : goal.returns-clause-crash
unfolding digits
returns-clause-crash c = refl

pub returns-clause-reboot : goal.returns-clause-reboot
unfolding digits
returns-clause-reboot c = refl

pub returns-clause-steps : goal.returns-clause-steps
unfolding digits
returns-clause-steps c = refl

pub returns-clause-taken : goal.returns-clause-taken
unfolding digits
returns-clause-taken c = refl

pub returns-clause-given : goal.returns-clause-given
unfolding digits
returns-clause-given c = refl

pub returns-clause-trace : goal.returns-clause-trace
unfolding digits
returns-clause-trace c = refl

pub returns-clause-refusal : goal.returns-clause-refusal
unfolding digits
returns-clause-refusal c = refl

pub returns-clause-late_refusal : goal.returns-clause-late_refusal
unfolding digits
returns-clause-late_refusal c = refl
