-- What several reads or writes come to. Told contents are optional; what is said of them holds where they are told.
use Rattle.std.specs.Prelude.{◌≡◌, ℕ, List, ◌++◌, take, Option, Some, IfSome}

-- a sink has gained this text after what it held, or a front of it
abbrev pub Gained : Option (List ℕ) → Option (List ℕ) → List ℕ → Type 0
Gained old new text = IfSome old (λ held. new ≡ Some (held ++ text))

abbrev pub GainedPrefix : Option (List ℕ) → Option (List ℕ) → List ℕ → Type 0
GainedPrefix old new text = IfSome old (λ held. (n : ℕ) × (new ≡ Some (held ++ take n text)))

-- a source has given these bytes, and the rest is left
abbrev pub Gave : Option (List ℕ) → Option (List ℕ) → List ℕ → Type 0
Gave old new given = IfSome old (λ bytes. (rest : List ℕ) × (bytes ≡ given ++ rest) × (new ≡ Some rest))
