use Rattle.std.proofs.Common.{ap, sym, ◌∙◌}
use Rattle.net_semantics.specs.Runs.{run}
use Rattle.retry_xform.specs.Retransmission.{retrying}
use Rattle.retry_observer.specs.Observed.{looked_at}
use Rattle.retry_observer.proofs.Carrying.{carried-is}
use Rattle.retry_observer.proofs.looking.look.Goals as goal

pub returns-in-Deliver : goal.returns-in-Deliver
returns-in-Deliver g c = λ ss taken follows net same allowed.
    let now = c.args.network.now in
    let w = run (retrying (g.H.Handlers.meaning (g.W.Network.within now))) (g.W.Network.system now).recovery ss in
    c.carried.ensures _ follows ∙ (carried-is w.packets c.in-Deliver.k ∙ ap (looked_at w) (sym c.in-Deliver.is))
