use Rattle.lock_server.proofs.Exclusion.{bag_excludes}
use Rattle.lock_server.proofs.laws.excludes.Goals as goal

pub returns : goal.returns
returns c = bag_excludes
