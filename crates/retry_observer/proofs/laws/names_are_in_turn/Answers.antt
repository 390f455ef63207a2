use Rattle.std.proofs.Common.{ap, ◌∙◌}
use Rattle.net_semantics.specs.Runs.{no_recovery, run}
use Rattle.retry_xform.specs.Retransmission.{retrying}
use Rattle.retry_observer.specs.Places.{numbers_at}
use Rattle.retry_observer.proofs.Carrying.{names-are}
use Rattle.retry_observer.proofs.Worlds.{are-named}
use Rattle.retry_observer.proofs.laws.names_are_in_turn.Goals as goal

pub returns : goal.returns
returns g c = λ net m ss allowed n.
    ap (numbers_at n) (names-are (run (retrying m) no_recovery ss).packets) ∙ (are-named m net ss allowed).turns n
