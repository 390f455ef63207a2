use Rattle.handler_trait.specs.Facts.{promises_of}
use Rattle.act_world.proofs.Starting.{first-shows, first-sound}
use Rattle.act_world.proofs.world.ActWorld.new.Goals as goal

pub returns-clause-first : goal.returns-clause-first
returns-clause-first g c =
    let nodes = c.in_ok-nodes.ensures in
    first-shows (promises_of g.H.Handlers c.args.handlers) g.D.SavesStates.disks c.args.handlers c.in_ok-nodes.nodes.items nodes.nodes nodes.first
    c.new-flights.result.items c.new-notes.result c.new-flights.ensures.items c.new-notes.ensures.image c.new-notes.ensures.listed c.new-notes.ensures.sent

pub returns-clause-sound : goal.returns-clause-sound
returns-clause-sound g c =
    let nodes = c.in_ok-nodes.ensures in
    first-sound (promises_of g.H.Handlers c.args.handlers) g.D.SavesStates.disks c.args.handlers c.in_ok-nodes.nodes.items nodes.nodes nodes.first
    c.new-flights.result.items c.new-notes.result c.new-flights.ensures.items c.new-notes.ensures.image c.new-notes.ensures.listed c.new-notes.ensures.sent
    nodes.sound (g.met.H.Handlers.fresh c.args.handlers)

pub returns-clause-follows : goal.returns-clause-follows
returns-clause-follows g c =
    let nodes = c.in_ok-nodes.ensures in
    first-shows (promises_of g.H.Handlers c.args.handlers) g.D.SavesStates.disks c.args.handlers c.in_ok-nodes.nodes.items nodes.nodes nodes.first
    c.new-flights.result.items c.new-notes.result c.new-flights.ensures.items c.new-notes.ensures.image c.new-notes.ensures.listed c.new-notes.ensures.sent
