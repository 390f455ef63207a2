use Rattle.node_histories.proofs.Running.{histories_are_runs, runs_go_on}
use Rattle.node_histories.proofs.Sending.{what_is_heard_was_sent, what_was_sent_is_not_forged}
use Rattle.node_histories.proofs.laws.histories_are_runs.Goals as goal

pub returns : goal.returns
returns g c = record {
  are_runs = histories_are_runs _ _ _ _ _;
  go_on = runs_go_on _ _ _ _ _;
  heard_was_sent = what_is_heard_was_sent _ _ _ _ _;
  sent_is_not_forged = what_was_sent_is_not_forged _ _ _ _ _;
}
