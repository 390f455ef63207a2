use Rattle.std.proofs.Common.{sym, subst}
use Rattle.lock_server.specs.Exclusion.{Excludes}
use Rattle.lock_server.specs.Locks.{lock_server}
use Rattle.net_semantics.specs.Once.{once}
use Rattle.xform_stack.proofs.laws.numbered_lock_excludes.Goals as goal

pub returns : goal.returns
returns c = λ nodes ss allowed.
    let m = lock_server nodes in
    subst Excludes (sym (c.repeats_do_nothing.ensures.same_trace m ss allowed)) (c.excludes.ensures nodes (once ss) (c.repeats_do_nothing.ensures.allowed m ss allowed))
