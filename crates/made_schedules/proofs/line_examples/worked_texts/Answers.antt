use Rattle.std.proofs.Common.{arith}
use Rattle.made_schedules.proofs.line_examples.worked_texts.Goals as goal

pub returns-clause-longest : goal.returns-clause-longest
returns-clause-longest c = record { has_text = λ x i below. tt; short = λ x i below. omega arith }

pub returns-clause-too_long : goal.returns-clause-too_long
returns-clause-too_long c = λ h. omega (arith, h.short 0 0 (omega arith))

pub returns-clause-no_text : goal.returns-clause-no_text
returns-clause-no_text c = λ h. let is = h.has_text 0 0 (omega arith) in cc is
