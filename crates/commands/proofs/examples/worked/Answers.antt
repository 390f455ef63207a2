-- These print numbers, whose digits have to be computed.
use Rattle.schedule_text.specs.Headers.{header_of}
use Rattle.std.proofs.Common.{refl}
use Rattle.std.specs.Fmt.{digits}
use Rattle.commands.proofs.examples.worked.Goals as goal

pub returns-clause-handed_over : goal.returns-clause-handed_over
unfolding digits header_of
returns-clause-handed_over c = refl

pub returns-clause-delivered_twice : goal.returns-clause-delivered_twice
unfolding digits header_of
returns-clause-delivered_twice c = refl

pub returns-clause-no_header : goal.returns-clause-no_header
unfolding digits header_of
returns-clause-no_header c = refl

pub returns-clause-denied : goal.returns-clause-denied
unfolding digits header_of
returns-clause-denied c = refl

pub returns-clause-no_claim : goal.returns-clause-no_claim
unfolding digits header_of
returns-clause-no_claim c = refl
