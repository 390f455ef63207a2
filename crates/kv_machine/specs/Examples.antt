-- What the definitions are computed on.
use Rattle.std.specs.Prelude.{ℕ, List, Option, codes}
use Rattle.kv_machine.specs.declared.out.KvOut.{KvOut}

-- two keys
abbrev pub a : List ℕ
a = codes "a"

abbrev pub b : List ℕ
b = codes "b"

-- three values
abbrev pub x : List ℕ
x = codes "x"

abbrev pub y : List ℕ
y = codes "y"

abbrev pub z : List ℕ
z = codes "z"

-- a key's value after a command and before it
abbrev pub told : List ℕ → Option (List ℕ) → Option (List ℕ) → KvOut
told k after before = record { key = k; after = after; before = before }
