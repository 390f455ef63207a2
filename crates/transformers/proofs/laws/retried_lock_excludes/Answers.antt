use Rattle.std.proofs.Common.{sym, subst}
use Rattle.lock_server.proofs.Exclusion.{bag_excludes}
use Rattle.lock_server.specs.Exclusion.{Excludes}
use Rattle.lock_server.specs.Locks.{lock_server}
use Rattle.transformers.proofs.Carried.{numbered_twice}
use Rattle.transformers.proofs.laws.retried_lock_excludes.Goals as goal

pub returns : goal.returns
returns c = λ nodes ss allowed.
    let r = numbered_twice _ _ _ _ (lock_server nodes) ss allowed in subst Excludes (sym r.trace) (bag_excludes nodes _ r.allowed)
