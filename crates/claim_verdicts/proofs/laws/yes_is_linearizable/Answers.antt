use Rattle.claim_verdicts.proofs.Decided.{yes-linearizable}
use Rattle.claim_verdicts.proofs.laws.yes_is_linearizable.Goals as goal

pub returns : goal.returns
returns g c = λ m claim spelled.
    let a = g.A.AppText in
    let laws = g.met.A.AppText in
    yes-linearizable a.is_output a.output_of a.output_text laws.outputs_are_spelled m a.is_input a.input_of a.input_text laws.inputs_are_spelled claim spelled
