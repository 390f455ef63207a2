-- What is kept, entry by entry, each by what a map has at a number.
use Rattle.std.proofs.Common.{◌≡◌, ℕ, true, false, List, [], ◌∷◌, refl, ap}
use Rattle.raft_clients.proofs.Lookups.{lookups}
use Rattle.raft_clients.specs.Examples.{asked, asks, noop}
use Rattle.raft_types.specs.declared.client.RaftInput.{RaftInput}
use Rattle.applied_order.proofs.Adding.{followed_executed, followed_none, followed_noop, followed_passed}
use Rattle.applied_order.specs.Examples.{five_entries, kept_of_five}
use Rattle.applied_order.specs.Orders.{HasFollowed}
use Rattle.applied_order.proofs.examples.worked_orders.Goals as goal

abbrev first_client : List (RaftInput ℕ) → ℕ
first_client [] = 0
first_client (r ∷ rs) = r.client

five : HasFollowed kept_of_five five_entries
five =
    let first = followed_executed _ [] (asks 7 0 3) followed_none (asked 7 0 3) refl (simp lookups) in
    let nothing = followed_noop _ _ noop first refl in
    let again = followed_passed _ _ (asks 7 0 4) nothing (asked 7 0 4) refl (simp lookups) in
    let other = followed_executed _ _ (asks 9 5 1) again (asked 9 5 1) refl (simp lookups) in
    followed_executed _ _ (asks 7 2 5) other (asked 7 2 5) refl (simp lookups)

pub returns-clause-none : goal.returns-clause-none
returns-clause-none c = followed_none

pub returns-clause-five : goal.returns-clause-five
returns-clause-five c = five

pub returns-clause-six : goal.returns-clause-six
returns-clause-six c = followed_passed _ _ (asks 9 4 8) five (asked 9 4 8) refl (simp lookups)

pub returns-clause-not_the_executed_alone_counted : goal.returns-clause-not_the_executed_alone_counted
returns-clause-not_the_executed_alone_counted c = λ h. cc (h.entries)

pub returns-clause-not_a_noop_of_client_0 : goal.returns-clause-not_a_noop_of_client_0
returns-clause-not_a_noop_of_client_0 c = λ h. let e : false ≡ true = simp lookups at (h.sessions 0 0) in cc (e)

pub returns-clause-not_the_last_number : goal.returns-clause-not_the_last_number
returns-clause-not_the_last_number c = λ h. let e : true ≡ false = simp lookups at (h.sessions 9 5) in cc (e)

pub returns-clause-not_of_a_client_unseen : goal.returns-clause-not_of_a_client_unseen
returns-clause-not_of_a_client_unseen c = λ h. let e : false ≡ true = simp lookups at (h.sessions 8 0) in cc (e)

pub returns-clause-not_again : goal.returns-clause-not_again
returns-clause-not_again c = λ h. cc (h.requests)

pub returns-clause-not_in_another_order : goal.returns-clause-not_in_another_order
returns-clause-not_in_another_order c = λ h. let e : 9 ≡ 7 = ap first_client h.requests in cc (e)

pub returns-clause-one_more_is_late : goal.returns-clause-one_more_is_late
returns-clause-one_more_is_late c = simp lookups

pub returns-clause-one_more_is_new : goal.returns-clause-one_more_is_new
returns-clause-one_more_is_new c = simp lookups

pub returns-clause-late_is_not_executed : goal.returns-clause-late_is_not_executed
returns-clause-late_is_not_executed c = simp lookups

pub returns-clause-new_is_executed : goal.returns-clause-new_is_executed
returns-clause-new_is_executed c = simp lookups

pub returns-clause-a_first_one_is_executed : goal.returns-clause-a_first_one_is_executed
returns-clause-a_first_one_is_executed c = simp lookups
