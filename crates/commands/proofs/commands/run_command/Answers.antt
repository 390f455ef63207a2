-- A command that reads nothing leaves any input as it is.
use Rattle.commands.specs.Seen.{source_seen}
use Rattle.commands.proofs.commands.run_command.Goals as goal

pub returns-in-Make-clause-answers : goal.returns-in-Make-clause-answers
returns-in-Make-clause-answers g c = rw c.in-Make.is (c.run_make.ensures (source_seen g.S.Source c.args.input.now))

pub returns-in-Summarize-clause-answers : goal.returns-in-Summarize-clause-answers
returns-in-Summarize-clause-answers g c = rw c.in-Summarize.is (c.run_summary.ensures (source_seen g.S.Source c.args.input.now))
