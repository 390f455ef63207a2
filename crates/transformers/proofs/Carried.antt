-- Each transformer carries all handlers.
use Rattle.std.proofs.Common.{refl}
use Rattle.fifo_xform.proofs.Explained.{order-is-kept}
use Rattle.net_semantics.specs.Runs.{no_recovery}
use Rattle.retry_xform.proofs.Simulation.{run-explained}
use Rattle.seqnum_xform.proofs.Explained.{repeats-do-nothing}
use Rattle.transformers.specs.Ordering.{ordering}
use Rattle.transformers.specs.Retransmission.{retransmission}
use Rattle.transformers.specs.Numbering.{numbering}
use Rattle.transformers.specs.TransformerLaws.{composed}
use Rattle.transformers.specs.Transformers.{Carries, over}

module _ (S I O M : Type 0) where
  pub numbering_is : Carries numbering S I O M
  numbering_is m ss allowed = let r = repeats-do-nothing m no_recovery no_recovery ss allowed in record { allowed = r.0; trace = r.1 }

  pub ordering_is : Carries ordering S I O M
  ordering_is m ss allowed = let r = order-is-kept m no_recovery no_recovery ss allowed in record { allowed = r.0; trace = r.1 }

  pub retransmission_is : Carries retransmission S I O M
  retransmission_is m ss allowed = let r = run-explained m ss allowed in record { allowed = r.allowed; trace = r.items }

module _ (S I O M : Type 0) where
  pub numbered_twice : Carries (over retransmission numbering) S I O M
  numbered_twice = composed S I O M retransmission numbering refl (numbering_is S I O M) (retransmission_is (numbering.State S M) I O (numbering.Msg M))

  pub ordered_twice : Carries (over retransmission ordering) S I O M
  ordered_twice = composed S I O M retransmission ordering refl (ordering_is S I O M) (retransmission_is (ordering.State S M) I O (ordering.Msg M))
