use Rattle.net_semantics.specs.Runs.{no_recovery}
use Rattle.fifo_xform.proofs.Explained.{order-is-kept}
use Rattle.fifo_xform.proofs.laws.order_is_kept.Goals as goal

pub returns-clause-allowed : goal.returns-clause-allowed
returns-clause-allowed g c = λ m ss allowed. (order-is-kept m no_recovery no_recovery ss allowed).0

pub returns-clause-same_trace : goal.returns-clause-same_trace
returns-clause-same_trace g c = λ m ss allowed. (order-is-kept m no_recovery no_recovery ss allowed).1
