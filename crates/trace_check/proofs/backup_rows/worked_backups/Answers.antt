-- These print numbers, whose digits have to be computed, and look keys up.
use Rattle.std.specs.Prelude.{refl}
use Rattle.std.specs.Fmt.{digits}
use Rattle.schedule_text.specs.Headers.{header_of}
use Rattle.claim_verdicts.proofs.Lookups.{lookups}
use Rattle.trace_check.proofs.backup_rows.worked_backups.Goals as goal

pub returns-clause-another_command : goal.returns-clause-another_command
unfolding digits header_of
returns-clause-another_command c = refl

pub returns-clause-acknowledged : goal.returns-clause-acknowledged
unfolding digits header_of
returns-clause-acknowledged c = simp lookups

pub returns-clause-redirected : goal.returns-clause-redirected
unfolding digits header_of
returns-clause-redirected c = simp lookups

pub returns-clause-another_output : goal.returns-clause-another_output
unfolding digits header_of
returns-clause-another_output c = simp lookups

pub returns-clause-answered_twice : goal.returns-clause-answered_twice
unfolding digits header_of
returns-clause-answered_twice c = simp lookups

pub returns-clause-a_table : goal.returns-clause-a_table
unfolding digits header_of
returns-clause-a_table c = simp lookups
