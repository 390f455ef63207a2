use Rattle.std.proofs.Common.{◌∙◌, []}
use Rattle.trace_maps.proofs.Sees.{sees-nothing, takes-replied}
use Rattle.trace_maps.proofs.schedule.below_primary_backup.Goals as goal

pub returns : goal.returns
returns g c = c.into_lines.ensures ∙ takes-replied c.see_all.new.self c.args.items.now _ c.into_taken.ensures (c.in_ok-see_all.ensures [] (rw c.new-below.ensures sees-nothing))
