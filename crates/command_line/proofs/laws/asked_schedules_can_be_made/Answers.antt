use Rattle.command_line.specs.CommandSet.{command_of}
use Rattle.command_line.proofs.Asking.{asked_can_be_made}
use Rattle.command_line.proofs.laws.asked_schedules_can_be_made.Goals as goal

pub returns : goal.returns
unfolding command_of
returns c = asked_can_be_made
