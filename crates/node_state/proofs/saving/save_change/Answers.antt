use Rattle.node_body.specs.Bodies.{kept_as}
use Rattle.node_state.proofs.Remembering.{remembers_any}
use Rattle.node_state.proofs.Crashing.{crash_any, holds_any, keeps_any, stopped_any}
use Rattle.node_state.proofs.saving.save_change.Goals as goal

pub returns-clause-stopped : goal.returns-clause-stopped
returns-clause-stopped g c =
    stopped_any g.C.Commands.stack g.C.Wire.format g.met.C.Wire.is_format g.met.C.Commands.short c.args.store.now (kept_as c.args.term c.args.voted c.args.log.now) c.write.result _ _
    c.write.ensures.stopped

pub returns-clause-remembers : goal.returns-clause-remembers
returns-clause-remembers g c =
    remembers_any g.C.Commands.stack g.C.Wire.format c.args.store.now (kept_as c.args.term c.args.voted c.args.log.now) c.write.result c.write.new.self c.write.ensures.knows

pub returns-clause-holds : goal.returns-clause-holds
returns-clause-holds g c =
    holds_any g.C.Commands.stack g.C.Wire.format g.met.C.Wire.is_format g.met.C.Commands.short c.args.store.now (kept_as c.args.term c.args.voted c.args.log.now) c.write.result _ _
    c.write.new.self c.requires.held c.write.ensures.fits c.write.ensures.did c.write.ensures.knows

pub returns-clause-keeps : goal.returns-clause-keeps
returns-clause-keeps g c =
    keeps_any g.C.Commands.stack g.C.Wire.format g.met.C.Wire.is_format g.met.C.Commands.short c.args.store.now (kept_as c.args.term c.args.voted c.args.log.now) c.write.result _
    c.write.ensures.fits

pub returns-clause-crash : goal.returns-clause-crash
returns-clause-crash g c =
    crash_any g.C.Commands.stack g.C.Wire.format g.met.C.Wire.is_format g.met.C.Commands.short c.args.store.now (kept_as c.args.term c.args.voted c.args.log.now) c.write.result _ _
    c.write.ensures.fits c.write.ensures.did c.write.ensures.stopped
