use Rattle.std.proofs.lemmas.Iterator.{YieldsList-from_zip, items_from_collect}
use Rattle.std.proofs.lemmas.Iterator.Adapters.{YieldsList-from_vec}
use Rattle.std.proofs.lemmas.Iterator.Consumers.{YieldsList-from_chain}
use Rattle.read_observer.proofs.placing.with_reads.Goals as goal

pub returns : goal.returns
returns g c =
    items_from_collect c.collect.result c.collect.ensures.ran
    (YieldsList-from_chain (YieldsList-from_zip (YieldsList-from_vec c.args.places.items (cc) (cc)) (YieldsList-from_vec c.args.requests.items (cc) (cc)))
    (YieldsList-from_vec c.args.reads.items (cc) (cc)) (cc) (cc))
