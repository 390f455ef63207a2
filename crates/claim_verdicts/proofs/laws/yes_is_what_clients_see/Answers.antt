use Rattle.claim_verdicts.proofs.Decided.{yes-shown}
use Rattle.claim_verdicts.proofs.laws.yes_is_what_clients_see.Goals as goal

pub returns : goal.returns
returns g c = λ net m claim. yes-shown g.A.AppText.input_text g.A.AppText.output_text net m claim
