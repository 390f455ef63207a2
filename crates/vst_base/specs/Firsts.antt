-- The first of several answers that applies.
use Rattle.std.specs.Prelude.{Bool, List, [], ◌∷◌, Option, Some, None, if◌then◌else◌}

-- of answers in their order, each with whether it applies, the first that does
abbrev pub first_of : {R : Type 0} → List (R × Bool) → Option R
first_of [] = None
first_of (r ∷ rs) = if r.1 then Some r.0 else first_of rs
