-- A run that came to something, and said so, answers by it.
use Rattle.std.specs.Prelude.{ℕ}
use Rattle.command_line.specs.AskedNodes.{NodeWordsView}
use Rattle.commands.specs.NodeOutcomes.{AnswersNode}
use Rattle.commands.specs.NodeSeen.{NodeRun}
use Rattle.commands.specs.NodeTelling.{Ends}
use Rattle.commands.proofs.NodeCompleting.{is_complete}
use Rattle.commands.proofs.NodeCounting.{keeps_all}
use Rattle.commands.proofs.NodeEnding.{has_come, has_done, has_refused, has_status, has_unheard, has_unread, has_unstored, has_unwritten, has_wanting, have_refused}

pub node_answers : (w : NodeWordsView) (r : NodeRun) (result : ℕ) → Ends w r result → AnswersNode w r result
node_answers w r result ends = record {
  status = has_status w r result ends;
  complete = is_complete w r result ends;
  came = has_come w r result ends;
  done = has_done w r result ends;
  refused = has_refused w r result ends;
  read = has_unread w r result ends;
  write = has_unwritten w r result ends;
  listening = has_unheard w r result ends;
  store = has_unstored w r result ends;
  memory = has_wanting w r result ends;
  areas = have_refused w r result ends;
  counts = keeps_all w r result ends;
}
