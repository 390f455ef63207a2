use Rattle.fifo_xform.proofs.Lookups.{lookups}
use Rattle.fifo_xform.proofs.examples.worked_runs.Goals as goal

pub returns-clause-early_waits_for_a_tick : goal.returns-clause-early_waits_for_a_tick
returns-clause-early_waits_for_a_tick c = simp lookups

pub returns-clause-its_image : goal.returns-clause-its_image
returns-clause-its_image c = simp lookups

pub returns-clause-second_tick_is_the_timer : goal.returns-clause-second_tick_is_the_timer
returns-clause-second_tick_is_the_timer c = simp lookups

pub returns-clause-held_copy_gives_way : goal.returns-clause-held_copy_gives_way
returns-clause-held_copy_gives_way c = simp lookups

pub returns-clause-of_its_destination : goal.returns-clause-of_its_destination
returns-clause-of_its_destination c = simp lookups

pub returns-clause-of_its_source : goal.returns-clause-of_its_source
returns-clause-of_its_source c = simp lookups
