-- What a store has at a key.
use Rattle.std.specs.Cmp.Lexicographic.{nat_list_cmp_total}
use Rattle.std.specs.FinMap.{get-empty, get-insert, get-remove}

pub ruleset lookups = (get-empty, get-insert, get-remove, nat_list_cmp_total)
