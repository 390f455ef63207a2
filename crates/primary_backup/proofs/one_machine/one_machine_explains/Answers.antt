use Rattle.net_semantics.specs.Runs.{no_recovery}
use Rattle.primary_backup.proofs.Backing.{bag_explained, bag_following}
use Rattle.primary_backup.proofs.one_machine.one_machine_explains.Goals as goal

pub returns-clause-explained : goal.returns-clause-explained
returns-clause-explained g c = λ m ss allowed. bag_explained m no_recovery ss allowed

pub returns-clause-following : goal.returns-clause-following
returns-clause-following g c = λ m ss allowed. bag_following m no_recovery ss allowed
