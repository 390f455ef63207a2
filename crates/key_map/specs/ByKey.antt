-- Values by key, as a finite map.
use Rattle.std.specs.Prelude.{ℕ, Bool, List, Option}
use Rattle.std.specs.Cmp.Lexicographic.{slice_cmp}
use Rattle.std.specs.Coded.{Coded, coded_ℕ, coded_list}
use Rattle.std.specs.FinMap.{FinMap, code, get}
use Rattle.std.specs.Option.{option_eq}
use Rattle.std.specs.Ordering.{nat_cmp}
use Rattle.std.specs.Str.{bytes_eq}

-- from the bytes of keys to values
abbrev pub ByKey : Type 0 → Type 0
ByKey V = FinMap (slice_cmp nat_cmp) V

abbrev pub by_key_code : {V : Type 0} → Coded V → Coded (ByKey V)
by_key_code value = code (coded_list coded_ℕ) value

-- whether the key has this token, or none
abbrev pub holds : ByKey (List ℕ) → List ℕ → Option (List ℕ) → Bool
holds m k v = option_eq bytes_eq (get m k) v
