use Rattle.std.proofs.Common.{ap, count_by, is_some}
use Rattle.net_semantics.proofs.Keeping.{kept_at_first}
use Rattle.net_semantics.proofs.packets.Packets.new.Goals as goal

pub invariant_of-result : goal.invariant_of-result
invariant_of-result g c =
    kept_at_first c.new-2.result c.new.result.items c.new.ensures.items (ap (count_by is_some) c.new-2.ensures.empty)
