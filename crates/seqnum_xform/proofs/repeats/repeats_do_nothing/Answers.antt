use Rattle.net_semantics.specs.Runs.{no_recovery}
use Rattle.seqnum_xform.proofs.Explained.{repeats-do-nothing}
use Rattle.seqnum_xform.proofs.repeats.repeats_do_nothing.Goals as goal

pub returns-clause-allowed : goal.returns-clause-allowed
returns-clause-allowed g c = λ m ss allowed. (repeats-do-nothing m no_recovery no_recovery ss allowed).0

pub returns-clause-same_trace : goal.returns-clause-same_trace
returns-clause-same_trace g c = λ m ss allowed. (repeats-do-nothing m no_recovery no_recovery ss allowed).1
