-- What writing lines comes to.
use Rattle.std.specs.Prelude.{◌≡◌, ℕ, List, ◌++◌, Option}
use Rattle.outside.specs.Counting.{Rose}
use Rattle.outside.specs.Wholes.{Gained}
use Rattle.line_reader.specs.declared.write_fault.WriteFault.{WriteFault}
use Rattle.line_reader.specs.declared.write_fault.WriteFault.TheVariants as fault

-- a failed write has its fault
abbrev pub HasWriteCause : ℕ → ℕ → WriteFault → Type 0
HasWriteCause faults faults' fault.Write = Rose faults faults'
HasWriteCause faults faults' fault.Memory = Unit {0}

-- some of the text that was gathered was written, and the rest is gathered still
abbrev pub Spilled : Option (List ℕ) → Option (List ℕ) → List ℕ → List ℕ → Type 0
Spilled out out' text text' = (sent : List ℕ) × Gained out out' sent × (text ≡ sent ++ text')
