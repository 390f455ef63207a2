use Rattle.stacks.specs.Table.{kind_at}
use Rattle.vst_base.specs.Stacks.{row_of}
use Rattle.made_schedules.proofs.KindLines.{found-lines}
use Rattle.made_schedules.proofs.StacksMake.{stacks-make}
use Rattle.made_schedules.proofs.each_stack.each_stack_has_lines.Goals as goal

pub returns-clause-makes : goal.returns-clause-makes
returns-clause-makes c = stacks-make

pub returns-clause-lines : goal.returns-clause-lines
returns-clause-lines c = λ i nodes few. found-lines (kind_at (row_of i).net i) nodes few (stacks-make i)
