-- These print numbers, whose digits have to be computed, and look a key up in a store.
use Rattle.std.specs.Fmt.{digits}
use Rattle.schedule_text.specs.Headers.{header_of}
use Rattle.claim_verdicts.proofs.Lookups.{lookups}
use Rattle.trace_check.proofs.limit_rows.worked_conditions.Goals as goal

pub returns-clause-answers_before_the_backup : goal.returns-clause-answers_before_the_backup
unfolding digits header_of
returns-clause-answers_before_the_backup c = simp lookups

pub returns-clause-backup_stands_in_no_image : goal.returns-clause-backup_stands_in_no_image
unfolding digits header_of
returns-clause-backup_stands_in_no_image c = simp lookups
