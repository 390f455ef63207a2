use Rattle.node_growth.proofs.Agreeing.{counts_on}
use Rattle.node_growth.proofs.laws.terms_are_counted_on.Goals as goal

pub returns : goal.returns
returns g c = record { counts_on = counts_on }
