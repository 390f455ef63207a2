-- Look-ups in what is held of a sender.
use Rattle.std.specs.Cmp.{nat_cmp_total}
use Rattle.std.specs.FinMap.{get-empty, get-insert, get-remove}

-- for `simp`: by what a map from numbers has at a number, after contents were written and taken out
pub ruleset lookups = (get-empty, get-insert, get-remove, nat_cmp_total)
