use Rattle.std.proofs.Common.{sym}
use Rattle.number_set.proofs.Rising.{goes_first, goes_found, goes_last}
use Rattle.number_set.proofs.set.place.Goals as goal

pub returns-then-last-n-clause-goes : goal.returns-then-last-n-clause-goes
returns-then-last-n-clause-goes c = goes_last c.args.numbers.now c.args.n c.in-Some.last.now c.requires (sym c.in-Some.ensures.value) c.if-last-n.true

pub returns-then-n-numbers-clause-goes : goal.returns-then-n-numbers-clause-goes
returns-then-n-numbers-clause-goes c = goes_first c.args.numbers.now c.args.n c.requires c.if-n-numbers.true

pub returns-clause-goes : goal.returns-clause-goes
returns-clause-goes c = goes_found c.args.numbers.now c.args.n c.binary_search.result c.requires c.binary_search.ensures.position
