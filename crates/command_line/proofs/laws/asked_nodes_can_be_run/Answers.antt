use Rattle.command_line.specs.CommandSet.{node_of}
use Rattle.command_line.proofs.Asking.{asked_can_be_run}
use Rattle.command_line.proofs.laws.asked_nodes_can_be_run.Goals as goal

pub returns : goal.returns
unfolding node_of
returns c = asked_can_be_run
