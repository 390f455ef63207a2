-- Look-ups in a map.
use Rattle.std.specs.Cmp.Lexicographic.{nat_list_cmp_total}
use Rattle.std.specs.FinMap.{get-empty, get-insert, get-remove}

-- what a map has at a key after values of keys were written and taken out
pub ruleset lookups = (get-empty, get-insert, get-remove, nat_list_cmp_total)
