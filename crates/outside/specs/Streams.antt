-- What a read takes and a write adds. Told contents are optional; what is said of them holds where they are told.
use Rattle.std.specs.Prelude.{◌≡◌, ℕ, ◌<◌, ◌≤◌, List, [], ◌++◌, length, take, drop, Option, IfSome, option_map}
use Rattle.outside.specs.Counting.{Rose}
use Rattle.outside.specs.declared.source.ReadOutcome.{ReadOutcome}
use Rattle.outside.specs.declared.source.ReadOutcome.TheVariants as read
use Rattle.outside.specs.declared.sink.WriteOutcome.{WriteOutcome}
use Rattle.outside.specs.declared.sink.WriteOutcome.TheVariants as write

-- n bytes of those that were left came into the front of a buffer, and none only at the end
pub record Gives (bytes : List ℕ) (n : ℕ) (before after : List ℕ) : Type 0 where
  pub front : take n after ≡ take n bytes
  pub enough : n ≤ length bytes
  pub at_end : n ≡ 0 → 0 < length before → bytes ≡ []

-- a read of a source with these contents and counts of faults, into this buffer. It counts a fault exactly where it failed
abbrev pub IsRead : Option (List ℕ) → Option (List ℕ) → ℕ → ℕ → List ℕ → List ℕ → ReadOutcome → Type 0
IsRead old new faults faults' before after (read.Got n) =
    (n ≤ length before) × (new ≡ option_map (drop n) old) × IfSome old (λ bytes. Gives bytes n before after) × (faults' ≡ faults)
IsRead old new faults faults' before after read.Failed = (new ≡ old) × Rose faults faults'

-- n bytes of a piece were taken, and none only of an empty piece
pub record Takes (piece : List ℕ) (n : ℕ) : Type 0 where
  pub within : n ≤ length piece
  pub some : 0 < length piece → 0 < n

-- a write of this piece to a sink with these contents
abbrev pub IsWritten : Option (List ℕ) → Option (List ℕ) → List ℕ → WriteOutcome → Type 0
IsWritten old new piece (write.Took n) = (new ≡ option_map (λ bytes. bytes ++ take n piece) old) × Takes piece n
IsWritten old new piece write.Failed = new ≡ old
IsWritten old new piece write.Memory = new ≡ old

-- a failure has its fault, and want of memory its count, and then no fault was counted
abbrev pub HasCause : ℕ → ℕ → ℕ → ℕ → WriteOutcome → Type 0
HasCause faults faults' wants wants' (write.Took n) = (faults' ≡ faults) × (wants' ≡ wants)
HasCause faults faults' wants wants' write.Failed = Rose faults faults' × (wants' ≡ wants)
HasCause faults faults' wants wants' write.Memory = (faults' ≡ faults) × Rose wants wants'
