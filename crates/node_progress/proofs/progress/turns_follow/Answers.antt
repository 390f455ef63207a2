use Rattle.node_progress.proofs.Going.{goes_is_halts, goes_on, halts_after, who_stays}
use Rattle.node_progress.proofs.progress.turns_follow.Goals as goal

pub returns-clause-on : goal.returns-clause-on
returns-clause-on g c = λ settings m who.
    goes_on settings m g.C.Commands.stack g.C.Wire.format g.O.Wire.format who

pub returns-clause-halts : goal.returns-clause-halts
returns-clause-halts g c = λ settings m who.
    halts_after settings m g.C.Commands.stack g.C.Wire.format g.O.Wire.format who

pub returns-clause-whole : goal.returns-clause-whole
returns-clause-whole g c = λ settings m who.
    goes_is_halts settings m g.C.Commands.stack g.C.Wire.format g.O.Wire.format who

pub returns-clause-who : goal.returns-clause-who
returns-clause-who g c = λ settings m who.
    who_stays settings m g.C.Commands.stack g.C.Wire.format g.O.Wire.format who
