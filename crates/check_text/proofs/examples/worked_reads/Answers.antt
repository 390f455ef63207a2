use Rattle.std.proofs.Common.{[], ◌++◌, codes, refl, sym, arith, append-nil}
use Rattle.check_text.proofs.examples.worked_reads.Goals as goal

pub returns-clause-to_its_newline : goal.returns-clause-to_its_newline
returns-clause-to_its_newline c = (codes "on 1 lock\n", (codes "in 1", refl, refl), omega arith)

pub returns-clause-to_the_border : goal.returns-clause-to_the_border
returns-clause-to_the_border c = λ rest many. (codes "on 1 lock\n" ++ rest, ([], sym (append-nil (codes "on 1 lock\n" ++ rest)), refl), omega (arith, many))
