-- What rows say of texts.
use Rattle.std.specs.Prelude.{◌≡◌, ℕ, Bool, List, Option, Some, is_none}
use Rattle.std.specs.List.{list_all}

-- the text is read as the value, and the value is printed as the text
abbrev pub Spells : {V : Type 0} → (List ℕ → Option V) → (V → List ℕ) → List ℕ → V → Type 0
Spells value_of text_of bs v = (value_of bs ≡ Some v) × (text_of v ≡ bs)

-- whether none of the texts is read as a value
abbrev pub none_of : {V : Type 0} → (List ℕ → Option V) → List (List ℕ) → Bool
none_of value_of texts = list_all (λ bs. is_none (value_of bs)) texts
