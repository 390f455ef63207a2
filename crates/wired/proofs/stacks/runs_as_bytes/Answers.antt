use Rattle.std.proofs.Common.{arith}
use Rattle.wired.proofs.RunningAsBytes.{runs_as_bytes}
use Rattle.wired.proofs.stacks.runs_as_bytes.Goals as goal

pub returns : goal.returns
returns g c = λ h stack has is few short.
    let w = g.H.OnWire in
    let laws = g.met.H.OnWire in
    runs_as_bytes g.H.Msg.Wire.format g.met.H.Msg.Wire.is_format stack is has w.sends
    (λ from to x sent. let fits = laws.fits from to x sent in (fits.0, omega (arith, fits.1, short))) w.has_bytes (g.H.Handlers.meaning h) few (w.good h) (laws.deals h)
