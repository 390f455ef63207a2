use Rattle.schedule_text.proofs.ReadBackLaws.{step-reads-back}
use Rattle.schedule_text.proofs.PrintedLaws.{steps-lines, steps-read}
use Rattle.schedule_text.proofs.laws.steps_read_back.Goals as goal

pub returns : goal.returns
returns g c =
    let a = g.A.AppText in
    let spelled = g.met.A.AppText.inputs_are_spelled in
    record {
      step = step-reads-back a.input_of a.input_text a.is_input spelled.reads_back;
      lines = steps-lines a.input_of a.input_text a.is_input spelled.reads_back spelled.one_line;
      script = steps-read a.input_of a.input_text a.is_input spelled.reads_back spelled.one_line;
    }
