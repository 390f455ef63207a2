-- What contracts see of an adapter, and what its calls do to the bytes of the stream under it, where those are known.
use Rattle.std.specs.Prelude.{◌≡◌, ℕ, ◌<◌, List, length, take, Option}
use Rattle.std.specs.Io.KnownBytes.{Appends, Consumes, IsAtEnd, Keeps}
use Rattle.outside.specs.declared.source.ReadOutcome.{ReadOutcome}
use Rattle.outside.specs.declared.source.ReadOutcome.TheVariants as read
use Rattle.outside.specs.declared.sink.WriteOutcome.{WriteOutcome}
use Rattle.outside.specs.declared.sink.WriteOutcome.TheVariants as write

-- the stream under an adapter, and how often it has failed
pub record Adapted (S : Type 0) : Type 0 where
  pub stream : S
  pub faults : ℕ

-- a read takes the known bytes that it gives, none only at their end, and a failure takes none
abbrev pub ReadsThrough : Option (List ℕ) → Option (List ℕ) → List ℕ → ReadOutcome → Type 0
ReadsThrough old new buf (read.Got n) = Consumes old new (take n buf) × (n ≡ 0 → 0 < length buf → IsAtEnd new)
ReadsThrough old new buf read.Failed = Keeps old new

-- a write adds the bytes that it took to the known ones, a failure adds none, and no write wants memory
abbrev pub WritesThrough : Option (List ℕ) → Option (List ℕ) → List ℕ → WriteOutcome → Type 0
WritesThrough old new piece (write.Took n) = Appends old new (take n piece)
WritesThrough old new piece write.Failed = Keeps old new
WritesThrough old new piece write.Memory = ⊥
