use Rattle.std.proofs.Common.{arith}
use Rattle.wired.proofs.RunningAsBytes.{runs_on_bytes_alone}
use Rattle.wired.proofs.stacks.clusters_run_the_same_on_bytes_alone.Goals as goal

pub returns : goal.returns
returns g c = λ h stack has is size short.
    let w = g.H.OnDisk in
    let laws = g.met.H.OnDisk in
    runs_on_bytes_alone g.H.Msg.Wire.format g.met.H.Msg.Wire.is_format stack is has w.sends
    (λ from to x sent. let fits = laws.fits from to x sent in (fits.0, omega (arith, fits.1, short))) w.has_bytes (g.H.Handlers.meaning h) (g.H.Rebootable.recovery h) size.1
    (g.H.Saves.saving h stack) (g.met.H.Saves.reads_back h stack) (w.good h) (λ label named. laws.deals h stack label named size)
