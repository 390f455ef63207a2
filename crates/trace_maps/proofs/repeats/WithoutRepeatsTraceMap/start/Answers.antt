use Rattle.std.proofs.Common.{[]}
use Rattle.trace_maps.proofs.Follows.{follows-nothing}
use Rattle.trace_maps.proofs.repeats.WithoutRepeatsTraceMap.start.Goals as goal

pub returns : goal.returns
returns g c = rw c.new.ensures (follows-nothing (λ rest left. g.F.TraceMap.has_followed rest left []) c.start.result c.start.ensures)
