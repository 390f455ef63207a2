-- What the definitions are computed on.
use Rattle.std.specs.Prelude.{ℕ, List}
use Rattle.handler_trait.specs.Handling.{Gathered, Effect}

-- what was gathered, with no more room
abbrev pub gathered : List ℕ → List (ℕ × ℕ) → Gathered ℕ ℕ
gathered outputs sends = record { outputs = outputs; sends = sends; output_places = 0; send_places = 0 }

abbrev pub effect : ℕ → List ℕ → List (ℕ × ℕ) → Effect ℕ ℕ ℕ
effect state outputs sends = record { state = state; outputs = outputs; sends = sends }
