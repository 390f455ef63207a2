-- Schedules, computed through the digits of their keys and values.
use Rattle.std.specs.Prelude.{refl}
use Rattle.std.specs.Fmt.{digits}
use Rattle.schedule_make.proofs.rows.worked_backups.Goals as goal

pub returns-clause-plain : goal.returns-clause-plain
unfolding digits
returns-clause-plain c = refl

pub returns-clause-numbered : goal.returns-clause-numbered
unfolding digits
returns-clause-numbered c = refl

pub returns-clause-table : goal.returns-clause-table
unfolding digits
returns-clause-table c = refl

pub returns-clause-plain_of_9 : goal.returns-clause-plain_of_9
unfolding digits
returns-clause-plain_of_9 c = refl

pub returns-clause-plain_of_the_greatest : goal.returns-clause-plain_of_the_greatest
unfolding digits
returns-clause-plain_of_the_greatest c = refl

pub returns-clause-numbered_of_10 : goal.returns-clause-numbered_of_10
unfolding digits
returns-clause-numbered_of_10 c = refl

pub returns-clause-table_of_12 : goal.returns-clause-table_of_12
unfolding digits
returns-clause-table_of_12 c = refl

pub returns-clause-numbered_of_2102 : goal.returns-clause-numbered_of_2102
unfolding digits
returns-clause-numbered_of_2102 c = refl

pub returns-clause-table_of_2102 : goal.returns-clause-table_of_2102
unfolding digits
returns-clause-table_of_2102 c = refl
