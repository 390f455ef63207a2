-- Reads of a stream that has `abc`, and writes to one that holds `a`, where its bytes are known.
use Rattle.std.specs.Prelude.{ℕ, List, Some, codes}
use Rattle.outside.specs.declared.source.ReadOutcome.{ReadOutcome}
use Rattle.outside.specs.declared.sink.WriteOutcome.{WriteOutcome}
use Rattle.os_edge.specs.Streams.{ReadsThrough, WritesThrough}

-- a read left these bytes of `abc` in the stream, and these in the buffer
abbrev pub reads_abc : List ℕ → List ℕ → ReadOutcome → Type 0
reads_abc left buf = ReadsThrough (Some (codes "abc")) (Some left) buf

-- a write of `bcd` left these bytes in the stream
abbrev pub writes_bcd : List ℕ → WriteOutcome → Type 0
writes_bcd holds = WritesThrough (Some (codes "a")) (Some holds) (codes "bcd")
