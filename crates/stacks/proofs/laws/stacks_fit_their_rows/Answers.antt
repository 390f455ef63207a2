use Rattle.stacks.proofs.Fitting.{fits}
use Rattle.stacks.proofs.laws.stacks_fit_their_rows.Goals as goal

pub returns : goal.returns
returns c = fits
