use Rattle.std.proofs.Common.{rules}
use Rattle.node_device_mem.proofs.Overwriting.{resized_parts}
use Rattle.node_device_mem.proofs.area.resize.Goals as goal

pub returns : goal.returns
returns c = grind (rules, resized_parts c.args.len c.args.old.now)
