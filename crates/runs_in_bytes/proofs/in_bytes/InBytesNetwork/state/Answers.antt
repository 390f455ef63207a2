use Rattle.net_semantics.specs.Runs.{no_recovery, run}
use Rattle.wired.specs.WiredRuns.{world_in_bytes}
use Rattle.runs_in_bytes.proofs.WorldInBytes.{state_sound}
use Rattle.runs_in_bytes.proofs.in_bytes.InBytesNetwork.state.Goals as goal

pub returns-clause-state : goal.returns-clause-state
returns-clause-state g c = λ ss had.
    let has = rw (← c.self.view_is) at had in
    let h = c.self.inside.world.handlers in
    let w = run (g.H.Handlers.meaning h.inner) (no_recovery {S = g.row.H-State.Denot}) ss in
    rw (← c.self.view_is) (c.state.ensures (world_in_bytes g.H.Msg.Wire.format h.stack h.name w) has.shows)

pub returns-clause-sound : goal.returns-clause-sound
returns-clause-sound g c =
    let sound = rw (← c.self.view_is) at c.requires.sound in
    let below = rw (← c.self.view_is) at c.requires.node in
    rw (← c.self.view_is) (state_sound g.H.Msg.Wire.format g.H.OnWire.longest g.H.Handlers c.self.inside.world c.args.n c.state.result.now sound below c.state.ensures)
