use Rattle.std.proofs.Common.{sym, subst}
use Rattle.mirror.proofs.Saying.{mirrors}
use Rattle.mirror.specs.Mirroring.{mirror}
use Rattle.mirror.specs.Prefix.{Mirrors}
use Rattle.transformers.proofs.Carried.{ordered_twice, ordering_is}
use Rattle.transformers.proofs.laws.carried_mirrors_say_a_prefix.Goals as goal

pub returns-clause-copied : goal.returns-clause-copied
returns-clause-copied c = λ nodes ss allowed.
    let r = ordering_is _ _ _ _ (mirror nodes) ss allowed in subst Mirrors (sym r.trace) (mirrors nodes _ r.allowed)

pub returns-clause-lost : goal.returns-clause-lost
returns-clause-lost c = λ nodes ss allowed.
    let r = ordered_twice _ _ _ _ (mirror nodes) ss allowed in subst Mirrors (sym r.trace) (mirrors nodes _ r.allowed)
