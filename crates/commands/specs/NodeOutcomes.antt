-- What a run of a node comes to: one record, with a field for each status.
use Rattle.std.specs.Prelude.{◌≡◌, ℕ}
use Rattle.command_line.specs.AskedNodes.{NodeWordsView}
use Rattle.udp_node.specs.declared.fault.NodeFault.TheVariants as fault
use Rattle.commands.specs.NodeComplete.{IsComplete}
use Rattle.commands.specs.NodeSeen.{KeepsAllCounts, NodeRun}
use Rattle.commands.specs.NodeStatuses.{AreAreasRefused, EndsBy, HasCome, HasListeningFailed, HasWriteFailed, IsConfigRefused, IsDone, IsNodeStatus, IsOutOfMemory}
use Rattle.commands.specs.declared.trouble.Trouble.TheVariants as trouble

-- the run of a node of these words, and the status that it answers
pub record AnswersNode (w : NodeWordsView) (r : NodeRun) (result : ℕ) : Type 0 where
  -- it is one of eight
  pub status : IsNodeStatus result
  -- where no call failed it is that of the configuration and the areas, or 8
  pub complete : IsComplete w r result
  -- what the run came to, whatever the status is
  pub came : HasCome w r
  -- what the status says
  pub done : result ≡ 0 → IsDone w r
  pub refused : result ≡ 3 → IsConfigRefused w r
  pub read : result ≡ 4 → EndsBy w r trouble.Read
  pub write : result ≡ 5 → HasWriteFailed w r
  pub listening : result ≡ 6 → HasListeningFailed w r
  pub store : result ≡ 7 → EndsBy w r (trouble.Ended fault.Store)
  pub memory : result ≡ 8 → IsOutOfMemory w r
  pub areas : result ≡ 9 → AreAreasRefused w r
  -- no count fell, of the streams or of the device
  pub counts : KeepsAllCounts r
