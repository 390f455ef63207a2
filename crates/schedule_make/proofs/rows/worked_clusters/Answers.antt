-- Schedules, computed through the digits of their keys and values.
use Rattle.std.specs.Prelude.{refl}
use Rattle.std.specs.Fmt.{digits}
use Rattle.schedule_make.proofs.rows.worked_clusters.Goals as goal

pub returns-clause-store : goal.returns-clause-store
unfolding digits
returns-clause-store c = refl

pub returns-clause-table : goal.returns-clause-table
unfolding digits
returns-clause-table c = refl

pub returns-clause-store_of_11 : goal.returns-clause-store_of_11
unfolding digits
returns-clause-store_of_11 c = refl

pub returns-clause-store_of_the_greatest : goal.returns-clause-store_of_the_greatest
unfolding digits
returns-clause-store_of_the_greatest c = refl

pub returns-clause-table_of_13 : goal.returns-clause-table_of_13
unfolding digits
returns-clause-table_of_13 c = refl

pub returns-clause-a_tick_for_a_deliver : goal.returns-clause-a_tick_for_a_deliver
unfolding digits
returns-clause-a_tick_for_a_deliver c = refl

pub returns-clause-a_reboot_for_an_input : goal.returns-clause-a_reboot_for_an_input
unfolding digits
returns-clause-a_reboot_for_an_input c = refl
