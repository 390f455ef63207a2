-- Scripts of call numbers.
use Rattle.std.specs.Prelude.{ℕ, ◌==◌, Bool, List}
use Rattle.std.specs.List.{list_any}
use Rattle.outside.specs.Counting.{counted}

-- whether the call after so many has one of these numbers
abbrev pub is_due : List ℕ → ℕ → Bool
is_due numbers calls = list_any (λ number. number == counted calls) numbers
