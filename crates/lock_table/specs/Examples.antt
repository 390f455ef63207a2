-- What the definitions are computed on.
use Rattle.std.specs.Prelude.{ℕ, List, codes}

-- two names
abbrev pub l : List ℕ
l = codes "l"

abbrev pub m : List ℕ
m = codes "m"

-- two owners
abbrev pub bob : List ℕ
bob = codes "bob"

abbrev pub al : List ℕ
al = codes "al"
