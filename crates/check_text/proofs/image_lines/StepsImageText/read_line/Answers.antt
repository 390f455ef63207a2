use Rattle.std.proofs.Common.{ap, ◌∙◌, sym}
use Rattle.check_text.proofs.StepLines.{of_line, step-said}
use Rattle.check_text.proofs.image_lines.StepsImageText.read_line.Goals as goal

pub returns-in-IsStep : goal.returns-in-IsStep
returns-in-IsStep g c =
    let said = rw c.in-IsStep.is at c.in_ok-step.ensures in
    ap of_line said ∙ step-said g.A.AppText.input_of c.args.line.now (sym c.begins_as_act.ensures ∙ c.if-begins_as_act.false)

pub returns-in-Refused : goal.returns-in-Refused
returns-in-Refused g c =
    let said = rw c.in-Refused.is at c.in_ok-step.ensures in
    ap of_line said ∙ step-said g.A.AppText.input_of c.args.line.now (sym c.begins_as_act.ensures ∙ c.if-begins_as_act.false)
