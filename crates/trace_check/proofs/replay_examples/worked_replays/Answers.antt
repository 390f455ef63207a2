-- These print numbers, whose digits have to be computed.
use Rattle.std.proofs.Common.{refl, arith}
use Rattle.std.specs.Fmt.{digits}
use Rattle.schedule_text.specs.Headers.{header_of}
use Rattle.claim_verdicts.proofs.Lookups.{lookups}
use Rattle.trace_check.proofs.replay_examples.worked_replays.Goals as goal

pub returns-clause-few_lines : goal.returns-clause-few_lines
returns-clause-few_lines c = record { lines = λ same. omega arith; image = λ same. cc }

pub returns-clause-any_lines : goal.returns-clause-any_lines
returns-clause-any_lines c = λ out lines. record { lines = λ same. cc; image = λ same. cc }

pub returns-clause-most_lines : goal.returns-clause-most_lines
returns-clause-most_lines c = λ out many. record { lines = λ same. omega (arith, many); image = λ same. cc }

pub returns-clause-too_many_lines : goal.returns-clause-too_many_lines
returns-clause-too_many_lines c = λ out many within. let few = within.lines refl in omega (arith, many, few)

pub returns-clause-any_order : goal.returns-clause-any_order
returns-clause-any_order c = λ out few. record { lines = λ same. omega (arith, few); image = λ same. cc }

pub returns-clause-longest_image : goal.returns-clause-longest_image
returns-clause-longest_image c = λ out. record { lines = λ same. cc; image = λ same. omega arith }

pub returns-clause-too_long_an_image : goal.returns-clause-too_long_an_image
returns-clause-too_long_an_image c = λ out within. let few = within.image refl in omega (arith, few)

pub returns-clause-lock : goal.returns-clause-lock
unfolding digits header_of
returns-clause-lock c = refl

pub returns-clause-copied : goal.returns-clause-copied
unfolding digits header_of
returns-clause-copied c = refl

pub returns-clause-nothing_happens : goal.returns-clause-nothing_happens
unfolding digits header_of
returns-clause-nothing_happens c = refl

pub returns-clause-refused_step : goal.returns-clause-refused_step
unfolding digits header_of
returns-clause-refused_step c = refl

pub returns-clause-another_stack : goal.returns-clause-another_stack
unfolding digits header_of
returns-clause-another_stack c = refl

pub returns-clause-held : goal.returns-clause-held
unfolding digits header_of
returns-clause-held c = simp lookups

pub returns-clause-mirrored : goal.returns-clause-mirrored
unfolding digits header_of
returns-clause-mirrored c = refl

pub returns-clause-copied_in_order : goal.returns-clause-copied_in_order
unfolding digits header_of
returns-clause-copied_in_order c = refl

pub returns-clause-sent_again : goal.returns-clause-sent_again
unfolding digits header_of
returns-clause-sent_again c = refl
