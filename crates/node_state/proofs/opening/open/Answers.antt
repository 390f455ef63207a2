use Rattle.node_state.proofs.Openings.{answer_any, crash_any, holds_any, stopped_any}
use Rattle.node_state.proofs.opening.open.Goals as goal

pub returns-clause-answer : goal.returns-clause-answer
returns-clause-answer g c =
    answer_any g.C.Commands.stack g.C.Wire.format g.met.C.Wire.is_format g.met.C.Commands.short c.args.who.now c.open_areas.result _ c.open_areas.ensures.opened

pub returns-clause-holds : goal.returns-clause-holds
returns-clause-holds g c =
    holds_any g.C.Commands.stack g.C.Wire.format g.met.C.Wire.is_format g.met.C.Commands.short c.args.who.now c.open_areas.result _ _ c.open_areas.ensures.opened c.open_areas.ensures.did

pub returns-clause-stopped : goal.returns-clause-stopped
returns-clause-stopped g c =
    stopped_any g.C.Commands.stack g.C.Wire.format g.met.C.Wire.is_format g.met.C.Commands.short c.args.who.now c.open_areas.result _ _ _ c.open_areas.ensures.stopped

pub returns-clause-crash : goal.returns-clause-crash
returns-clause-crash g c =
    crash_any g.C.Commands.stack g.C.Wire.format g.met.C.Wire.is_format g.met.C.Commands.short c.args.who.now c.open_areas.result _ _ c.open_areas.ensures.opened c.open_areas.ensures.did
    c.open_areas.ensures.stopped
