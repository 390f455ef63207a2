use Rattle.std.proofs.Common.{refl, arith}
use Rattle.node_run.specs.Examples.{granted}
use Rattle.datagram_laws.proofs.examples.worked_hearing.Goals as goal

pub returns-clause-was_sent : goal.returns-clause-was_sent
returns-clause-was_sent c = record {
  packet = (0, granted);
  sent = (1, omega arith, refl);
  taken = record { is = refl; to = refl; stack = refl; name = refl; another = λ e. cc e; address = refl };
}
