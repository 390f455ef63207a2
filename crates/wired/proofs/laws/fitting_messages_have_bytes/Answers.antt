use Rattle.wired.proofs.HeardBack.{fitting_has_bytes}
use Rattle.wired.proofs.laws.fitting_messages_have_bytes.Goals as goal

pub returns : goal.returns
returns g c = fitting_has_bytes g.M.Wire.format g.met.M.Wire.is_format
