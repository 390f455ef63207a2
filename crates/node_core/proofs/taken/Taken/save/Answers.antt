use Rattle.node_core.proofs.Taking.{opens_held}
use Rattle.node_core.proofs.taken.Taken.save.Goals as goal

pub returns-clause-opens : goal.returns-clause-opens
returns-clause-opens g c =
    opens_held g.C.Commands.stack g.C.Wire.format c.save_change.new.store _ _ _ c.term.ensures c.voted.ensures c.log-log.ensures.entries
    c.in_ok-save_change.ensures.holds
