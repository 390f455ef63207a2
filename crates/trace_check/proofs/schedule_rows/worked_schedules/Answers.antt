-- These print numbers, whose digits have to be computed, and look keys up.
use Rattle.std.specs.Prelude.{refl}
use Rattle.std.specs.Fmt.{digits}
use Rattle.schedule_text.specs.Headers.{header_of}
use Rattle.claim_verdicts.proofs.Lookups.{lookups}
use Rattle.trace_check.proofs.schedule_rows.worked_schedules.Goals as goal

pub returns-clause-another_node : goal.returns-clause-another_node
unfolding digits header_of
returns-clause-another_node c = refl

pub returns-clause-another_input : goal.returns-clause-another_input
unfolding digits header_of
returns-clause-another_input c = refl

pub returns-clause-machine_alone : goal.returns-clause-machine_alone
unfolding digits header_of
returns-clause-machine_alone c = simp lookups

pub returns-clause-another_output : goal.returns-clause-another_output
unfolding digits header_of
returns-clause-another_output c = refl

pub returns-clause-outputs_swapped : goal.returns-clause-outputs_swapped
unfolding digits header_of
returns-clause-outputs_swapped c = refl
