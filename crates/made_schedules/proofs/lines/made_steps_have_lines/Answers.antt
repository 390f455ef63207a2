use Rattle.std.specs.Prelude.{◌+◌, ◌≤◌, length}
use Rattle.std.proofs.Common.{arith}
use Rattle.schedule_make.specs.Made.{made}
use Rattle.schedule_text.specs.declared.reading.TheConstants.{MAX_LINES}
use Rattle.vst_base.specs.declared.step.TheConstants.{MAX_STEPS}
use Rattle.made_schedules.proofs.StepLines.{have-lines}
use Rattle.made_schedules.proofs.lines.made_steps_have_lines.Goals as goal

pub returns-clause-lines : goal.returns-clause-lines
returns-clause-lines g c = λ net m r inputs nodes few texts. have-lines g.A.AppText.is_input g.A.AppText.input_text net m r inputs nodes few texts

pub returns-clause-read_back : goal.returns-clause-read_back
returns-clause-read_back g c = λ net m r inputs seed steps nodes few texts within.
    let ss = made net m r inputs seed steps in
    let lines = have-lines g.A.AppText.is_input g.A.AppText.input_text net m r inputs nodes few texts seed steps within in
    let as-many = c.made_schedules_are_allowed.ensures.steps net m r inputs seed steps in
    let below : 2 + length ss ≤ MAX_LINES + 1 = omega (arith, as-many, within) in
    let room : 0 + length ss ≤ MAX_STEPS = omega (arith, as-many, within) in
    c.steps_read_back.ensures.script MAX_LINES 2 0 ss lines below room
