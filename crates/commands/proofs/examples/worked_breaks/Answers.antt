-- This prints a number, whose digits have to be computed.
use Rattle.schedule_text.specs.Headers.{header_of}
use Rattle.std.proofs.Common.{refl}
use Rattle.std.specs.Fmt.{digits}
use Rattle.commands.proofs.examples.worked_breaks.Goals as goal

pub returns-clause-replayed : goal.returns-clause-replayed
unfolding digits header_of
returns-clause-replayed c = refl
