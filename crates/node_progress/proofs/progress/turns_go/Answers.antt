use Rattle.node_progress.proofs.Turns.{event_goes, first_goes, quiet_goes}
use Rattle.node_progress.proofs.progress.turns_go.Goals as goal

pub returns-clause-first : goal.returns-clause-first
returns-clause-first g c = λ settings m who.
    first_goes settings m g.C.Commands.stack g.C.Wire.format g.O.Wire.format who

pub returns-clause-quiet : goal.returns-clause-quiet
returns-clause-quiet g c = λ settings m who.
    quiet_goes settings m g.C.Commands.stack g.C.Wire.format g.O.Wire.format who

pub returns-clause-event : goal.returns-clause-event
returns-clause-event g c = λ settings m who.
    event_goes settings m g.C.Commands.stack g.C.Wire.format g.O.Wire.format who
