use Rattle.node_records.proofs.ActKinds.{whole}
use Rattle.node_records.proofs.Leaving.{keeps_is_saving}
use Rattle.node_records.proofs.moments.saves_open_as_either.Goals as goal

pub returns-clause-either : goal.returns-clause-either
returns-clause-either g c = keeps_is_saving

pub returns-clause-whole : goal.returns-clause-whole
returns-clause-whole g c = whole
