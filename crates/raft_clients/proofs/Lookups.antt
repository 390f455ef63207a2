-- Look-ups in what is kept of clients.
use Rattle.std.specs.Cmp.{nat_cmp_total}
use Rattle.std.specs.FinMap.{get-empty, get-insert}

-- for `simp`: by what a map from clients' numbers has at a number, after insertions
pub ruleset lookups = (get-empty, get-insert, nat_cmp_total)
