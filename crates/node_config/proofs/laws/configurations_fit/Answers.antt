use Rattle.node_config.proofs.Fitting.{configured-fits}
use Rattle.node_config.proofs.laws.configurations_fit.Goals as goal

pub returns : goal.returns
returns c = configured-fits
