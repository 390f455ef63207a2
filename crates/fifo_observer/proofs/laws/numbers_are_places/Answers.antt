use Rattle.net_semantics.specs.Runs.{no_recovery, run}
use Rattle.fifo_xform.specs.Fifo.{fifo}
use Rattle.fifo_observer.proofs.Numbers.{number-is}
use Rattle.fifo_observer.proofs.Worlds.{are-numbered}
use Rattle.fifo_observer.proofs.laws.numbers_are_places.Goals as goal

pub returns : goal.returns
returns g c = λ net m ss allowed k p at.
    number-is (run (fifo m) no_recovery ss).packets _ k p ((are-numbered m net ss allowed).turns p.source p.destination) at
