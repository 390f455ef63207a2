-- How the values of a type are spelled.
use Rattle.std.specs.Prelude.{◌≡◌, ℕ, false, ◌==◌, List, Option, Some}
use Rattle.std.specs.List.{list_any}

-- a text that is read as a value is that value's own, so no two texts mean one value, and each value
-- that has a text is read back from it. No text has a newline
pub record IsSpelling {V : Type 0} (HasText : V → Type 0) (value_of : List ℕ → Option V) (text_of : V → List ℕ) : Type 0 where
  pub one_text : (bs : List ℕ) (v : V) → value_of bs ≡ Some v → text_of v ≡ bs
  pub has_text : (bs : List ℕ) (v : V) → value_of bs ≡ Some v → HasText v
  pub reads_back : (v : V) → HasText v → value_of (text_of v) ≡ Some v
  pub one_line : (v : V) → HasText v → list_any (λ b. b == 10) (text_of v) ≡ false
