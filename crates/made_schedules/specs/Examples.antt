-- What the definitions are computed on.
use Rattle.std.specs.Prelude.{ℕ, List, [], Some, Result, codes, replicate}
use Rattle.handler_trait.specs.Handling.{Meaning}
use Rattle.handler_trait.specs.Echo.{echo}
use Rattle.line_reader.specs.declared.write_fault.WriteFault.{WriteFault}
use Rattle.made_schedules.specs.Making.{WritesText}

-- the small application, where each timer sends this many packets
abbrev pub knocks : ℕ → Meaning ℕ ℕ ℕ ℕ
knocks packets = record (echo 3) { timeout = λ n s. record { state = s; outputs = []; sends = replicate packets (0, 9) } }

-- what writing a text of two lines comes to, to a sink that held one, of which so many writes failed and wanted memory before
abbrev pub writes : List ℕ → ℕ → ℕ → Result (Unit {0}) WriteFault → Type 0
writes out faults wants r = WritesText (codes "in 1 lock\ntick 0\n") (Some (codes "held\n")) (Some out) 3 faults 7 wants r
