use Rattle.fifo_xform.proofs.Lookups.{lookups}
use Rattle.fifo_xform.proofs.examples.worked_held.Goals as goal

pub returns-clause-above_is_early : goal.returns-clause-above_is_early
returns-clause-above_is_early c = simp lookups

pub returns-clause-held_once : goal.returns-clause-held_once
returns-clause-held_once c = simp lookups

pub returns-clause-beside_a_held_one : goal.returns-clause-beside_a_held_one
returns-clause-beside_a_held_one c = simp lookups

pub returns-clause-passed_is_dropped : goal.returns-clause-passed_is_dropped
returns-clause-passed_is_dropped c = simp lookups

pub returns-clause-another_stays : goal.returns-clause-another_stays
returns-clause-another_stays c = simp lookups
