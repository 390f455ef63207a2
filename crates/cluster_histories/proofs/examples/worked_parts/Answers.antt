-- Each place at which what goes out stands among what was sent and put out.
use Rattle.std.proofs.Common.{refl, arith}
use Rattle.cluster_histories.proofs.examples.worked_parts.Goals as goal

pub returns-clause-sends_again : goal.returns-clause-sends_again
returns-clause-sends_again c = (refl, (tt, ((0, omega arith, refl), (tt, (tt, (tt, ((0, omega arith, refl), ((1, omega arith, refl), ((1, omega arith, refl), tt)))))))))
