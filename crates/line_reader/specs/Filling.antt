-- What filling the buffer of a reader comes to.
use Rattle.std.specs.Prelude.{◌≡◌, ℕ, List, [], length, take, drop, Option, IfSome, option_map}
use Rattle.outside.specs.Counting.{Rose}
use Rattle.outside.specs.declared.source.ReadOutcome.{ReadOutcome}
use Rattle.outside.specs.declared.source.ReadOutcome.TheVariants as read

-- the bytes that came are those ahead, and none came only at the end
pub record Came (bytes : List ℕ) (n : ℕ) (ahead : List ℕ) : Type 0 where
  pub front : ahead ≡ take n bytes
  pub at_end : n ≡ 0 → bytes ≡ []

abbrev pub Fills : Option (List ℕ) → Option (List ℕ) → ℕ → ℕ → List ℕ → ReadOutcome → Type 0
Fills old new faults faults' ahead (read.Got n) =
    (length ahead ≡ n) × (new ≡ option_map (drop n) old) × IfSome old (λ bytes. Came bytes n ahead)
Fills old new faults faults' ahead read.Failed = (ahead ≡ []) × (new ≡ old) × Rose faults faults'
