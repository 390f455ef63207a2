use Rattle.std.specs.Prelude.{◌<◌, IfSome, slice_get}
use Rattle.std.proofs.Common.{subst, sym, ◌∙◌}
use Rattle.net_semantics.specs.Runs.{no_recovery, run}
use Rattle.wired.specs.WiredRuns.{world_in_bytes}
use Rattle.runs_in_bytes.specs.ToldLaws.{ends_alike}
use Rattle.runs_in_bytes.proofs.Told.{ends_below}
use Rattle.runs_in_bytes.proofs.in_bytes.InBytesNetwork.ends.Goals as goal

pub returns-clause-ends : goal.returns-clause-ends
returns-clause-ends g c = λ ss had.
    let has = rw (← c.self.view_is) at had in
    let h = c.self.inside.world.handlers in
    let f = g.H.Msg.Wire.format in
    let w = run (g.H.Handlers.meaning h.inner) (no_recovery {S = g.row.H-State.Denot}) ss in
    rw (← c.self.view_is) (c.ends.ensures (world_in_bytes f h.stack h.name w) has.shows ∙ ends_alike f h.stack h.name w c.args.k)

pub returns-clause-below : goal.returns-clause-below
returns-clause-below g c = λ ss had ok.
    let has = rw (← c.self.view_is) at had in
    let sound = rw (← c.self.view_is) at ok in
    let world = c.self.inside.world in
    let h = world.handlers in
    let m = g.H.Handlers.meaning h.inner in
    let w = world_in_bytes g.H.Msg.Wire.format h.stack h.name (run m (no_recovery {S = g.row.H-State.Denot}) ss) in
    rw (← c.self.view_is) (subst (λ told. IfSome told (λ e. e.1 < m.nodes)) (sym (c.ends.ensures w has.shows))
    (ends_below m.nodes world.taken (slice_get world.packets c.args.k) (slice_get w.packets c.args.k) (has.shows.packets c.args.k) (sound.world.packets c.args.k)))
