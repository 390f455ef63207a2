-- Texts of replays, computed through the digits of their numbers, what the store finds, and what a cluster remembers of its clients.
use Rattle.std.specs.Cmp.Lexicographic.{nat_list_cmp_total}
use Rattle.std.specs.Cmp.{nat_cmp_total}
use Rattle.std.specs.FinMap.{get-empty, get-insert, get-remove}
use Rattle.std.specs.Fmt.{digits}
use Rattle.schedule_text.specs.Headers.{header_of}
use Rattle.schedule_replay.proofs.read_examples.worked_reads.Goals as goal

ruleset lookups_and_sessions = (get-empty, get-insert, get-remove, nat_list_cmp_total, nat_cmp_total)

pub returns-clause-a_read_is_answered : goal.returns-clause-a_read_is_answered
unfolding digits header_of
returns-clause-a_read_is_answered c = simp lookups_and_sessions

pub returns-clause-counted : goal.returns-clause-counted
unfolding header_of
returns-clause-counted c = simp lookups_and_sessions

pub returns-clause-nobody_holds_it : goal.returns-clause-nobody_holds_it
unfolding digits header_of
returns-clause-nobody_holds_it c = simp lookups_and_sessions
