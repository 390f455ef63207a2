-- These print numbers, whose digits have to be computed.
use Rattle.std.proofs.Common.{refl}
use Rattle.std.specs.Fmt.{digits}
use Rattle.made_schedules.proofs.examples.worked.Goals as goal

pub returns-clause-no_step : goal.returns-clause-no_step
unfolding digits
returns-clause-no_step c = refl

pub returns-clause-one_step : goal.returns-clause-one_step
unfolding digits
returns-clause-one_step c = refl

pub returns-clause-ten_steps : goal.returns-clause-ten_steps
unfolding digits
returns-clause-ten_steps c = refl

pub returns-clause-none_out_of_turn : goal.returns-clause-none_out_of_turn
unfolding digits
returns-clause-none_out_of_turn c = refl

pub returns-clause-in_any_order : goal.returns-clause-in_any_order
unfolding digits
returns-clause-in_any_order c = refl

pub returns-clause-lost_and_sent_again : goal.returns-clause-lost_and_sent_again
unfolding digits
returns-clause-lost_and_sent_again c = refl
