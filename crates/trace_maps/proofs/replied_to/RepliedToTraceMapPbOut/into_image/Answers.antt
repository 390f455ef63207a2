use Rattle.trace_maps.proofs.Sees.{takes-replied}
use Rattle.trace_maps.proofs.replied_to.RepliedToTraceMapPbOut.into_image.Goals as goal

pub returns : goal.returns
returns g c = λ ss items had. takes-replied c.args.self items _ c.into_taken.ensures had
