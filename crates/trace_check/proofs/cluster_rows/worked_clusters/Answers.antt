-- These print numbers, whose digits have to be computed, and look keys up.
use Rattle.std.specs.Fmt.{digits}
use Rattle.claim_verdicts.proofs.Lookups.{lookups}
use Rattle.trace_check.proofs.cluster_rows.worked_clusters.Goals as goal

pub returns-clause-told_again_by_a_new_leader : goal.returns-clause-told_again_by_a_new_leader
unfolding digits
returns-clause-told_again_by_a_new_leader c = simp lookups

pub returns-clause-told_in_another_order : goal.returns-clause-told_in_another_order
unfolding digits
returns-clause-told_in_another_order c = simp lookups

pub returns-clause-another_output : goal.returns-clause-another_output
unfolding digits
returns-clause-another_output c = simp lookups

pub returns-clause-told_before_one_before_it : goal.returns-clause-told_before_one_before_it
unfolding digits
returns-clause-told_before_one_before_it c = simp lookups

pub returns-clause-told_before_it_was_put_in : goal.returns-clause-told_before_it_was_put_in
unfolding digits
returns-clause-told_before_it_was_put_in c = simp lookups

pub returns-clause-put_in_again_later : goal.returns-clause-put_in_again_later
unfolding digits
returns-clause-put_in_again_later c = simp lookups

pub returns-clause-put_in_before_with_another_command : goal.returns-clause-put_in_before_with_another_command
unfolding digits
returns-clause-put_in_before_with_another_command c = simp lookups

pub returns-clause-a_table : goal.returns-clause-a_table
unfolding digits
returns-clause-a_table c = simp lookups

pub returns-clause-both_told_yes : goal.returns-clause-both_told_yes
unfolding digits
returns-clause-both_told_yes c = simp lookups

pub returns-clause-a_read_without_an_entry : goal.returns-clause-a_read_without_an_entry
unfolding digits
returns-clause-a_read_without_an_entry c = simp lookups

pub returns-clause-a_stale_read : goal.returns-clause-a_stale_read
unfolding digits
returns-clause-a_stale_read c = simp lookups
