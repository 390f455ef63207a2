-- Readers of texts whose lines have at most the number 9, before their first line and after it.
use Rattle.std.specs.Prelude.{ℕ, Bool, List, Option, Result}
use Rattle.line_reader.specs.Outcomes.{ReadsLine}
use Rattle.line_reader.specs.Readers.{ReaderView, fresh}
use Rattle.line_reader.specs.declared.read_fault.ReadFault.{ReadFault}

-- with these bytes ahead, this line and its number, and whether the end was met
abbrev pub reader : List ℕ → List ℕ → ℕ → Bool → ReaderView
reader ahead line number ended = record { ahead = ahead; line = line; number = number; most = 9; events = 0; ended = ended }

-- what the first line of a text is, after which the reader is this and the source has this left
abbrev pub reads : List ℕ → ReaderView → Option (List ℕ) → Result (Unit {0}) ReadFault → Type 0
reads text new left r = ReadsLine (fresh 9) new left text r
