use Rattle.std.proofs.Common.{sym, subst}
use Rattle.net_semantics.specs.BelowPb.{IsExplainedBy}
use Rattle.net_semantics.specs.Runs.{no_recovery}
use Rattle.primary_backup.proofs.Backing.{bag_explained}
use Rattle.primary_backup.specs.Backup.{primary_backup}
use Rattle.transformers.proofs.Carried.{numbered_twice}
use Rattle.transformers.specs.Retransmission.{retransmission}
use Rattle.transformers.specs.Numbering.{numbering}
use Rattle.transformers.specs.Transformers.{over}
use Rattle.transformers.proofs.laws.retried_backup_is_one_machine.Goals as goal

pub returns : goal.returns
returns g c = λ m ss allowed.
    let r = numbered_twice _ _ _ _ (primary_backup m) ss allowed in
    subst (IsExplainedBy m) (sym r.trace) (bag_explained m no_recovery ((over retransmission numbering).within (primary_backup m) ss) r.allowed)
