-- What a step over a record answers.
use Rattle.std.specs.Prelude.{◌≡◌, ℕ, List, Option, None, Some, Result, Ok, Err}

-- the state after it and what is left of the bytes, or that there is none; nothing is said where memory was wanted
abbrev pub Steps : {K E : Type 0} → Option (K × List ℕ) → List ℕ → Result (Option K) E → Type 0
Steps read after (Ok (Some k)) = read ≡ Some (k, after)
Steps read after (Ok None) = read ≡ None
Steps read after (Err _) = Unit {0}
