use Rattle.raft_clients.proofs.Listed.{executed-append, executed-at_places, executed-rises, executed_entries-append, requests-executed_entries}
use Rattle.raft_clients.proofs.laws.the_log_decides.Goals as goal

pub returns-clause-at_the_places : goal.returns-clause-at_the_places
returns-clause-at_the_places g c = executed-at_places

pub returns-clause-by_their_entries : goal.returns-clause-by_their_entries
returns-clause-by_their_entries g c = requests-executed_entries

pub returns-clause-a_beginning_stays : goal.returns-clause-a_beginning_stays
returns-clause-a_beginning_stays g c = executed-append

pub returns-clause-its_entries_stay : goal.returns-clause-its_entries_stay
returns-clause-its_entries_stay g c = executed_entries-append

pub returns-clause-numbers_rise : goal.returns-clause-numbers_rise
returns-clause-numbers_rise g c = executed-rises
