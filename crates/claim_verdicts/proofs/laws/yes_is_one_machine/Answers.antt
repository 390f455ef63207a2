use Rattle.claim_verdicts.proofs.Decided.{yes-one-machine}
use Rattle.claim_verdicts.proofs.laws.yes_is_one_machine.Goals as goal

pub returns : goal.returns
returns g c = λ m claim spelled.
    let a = g.A.AppText in
    yes-one-machine a.is_output a.output_of a.output_text g.met.A.AppText.outputs_are_spelled m a.input_text claim spelled
