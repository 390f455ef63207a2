-- These print numbers, whose digits have to be computed.
use Rattle.schedule_text.specs.Headers.{header_of}
use Rattle.std.proofs.Common.{refl}
use Rattle.std.specs.Fmt.{digits}
use Rattle.commands.proofs.make_examples.worked_making.Goals as goal

pub returns-clause-made : goal.returns-clause-made
unfolding digits header_of
returns-clause-made c = refl

pub returns-clause-summarized : goal.returns-clause-summarized
unfolding digits header_of
returns-clause-summarized c = refl

pub returns-clause-counts : goal.returns-clause-counts
unfolding digits header_of
returns-clause-counts c = refl
