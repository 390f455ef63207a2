use Rattle.std.proofs.Common.{◌∙◌}
use Rattle.net_semantics.specs.Runs.{no_recovery, run}
use Rattle.wired.specs.WiredRuns.{world_in_bytes}
use Rattle.runs_in_bytes.specs.ToldLaws.{as_many_copies}
use Rattle.runs_in_bytes.proofs.in_bytes.InBytesNetwork.copies.Goals as goal

pub returns : goal.returns
returns g c = λ ss had.
    let has = rw (← c.self.view_is) at had in
    let h = c.self.inside.world.handlers in
    let f = g.H.Msg.Wire.format in
    let w = run (g.H.Handlers.meaning h.inner) (no_recovery {S = g.row.H-State.Denot}) ss in
    rw (← c.self.view_is) (c.copies.ensures (world_in_bytes f h.stack h.name w) has.shows ∙ as_many_copies f h.stack h.name w c.args.k)
