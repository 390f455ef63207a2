use Rattle.stacks.specs.Table.{kind_at}
use Rattle.vst_base.specs.Stacks.{row_of}
use Rattle.made_schedules.specs.MadeTexts.{made_nodes}
use Rattle.made_schedules.proofs.Allowed.{found-allowed, found-asked, has-nodes}
use Rattle.made_schedules.proofs.laws.made_schedules_are_allowed.Goals as goal

pub returns-clause-steps : goal.returns-clause-steps
returns-clause-steps c = λ i seed steps. found-asked (kind_at (row_of i).net i) (made_nodes (row_of i)) seed steps (c.each_stack_has_lines.ensures.makes i)

pub returns-clause-allowed : goal.returns-clause-allowed
returns-clause-allowed c = λ i seed steps sends.
    found-allowed (row_of i) (kind_at (row_of i).net i) (made_nodes (row_of i)) seed steps (c.stacks_fit_their_rows.ensures i) (c.each_stack_has_lines.ensures.makes i)
    (has-nodes i) sends
