use Rattle.std.proofs.Common.{[], take}
use Rattle.trace_maps.proofs.schedule.image_of.Given as goal

abbrev pub invariant-loop-step : goal.invariant-loop-step
invariant-loop-step g l = g.T.TraceMap.has_followed l.map (take l.step-index l.steps) []
