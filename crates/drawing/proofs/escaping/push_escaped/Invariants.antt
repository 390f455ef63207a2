use Rattle.std.proofs.Common.{◌≡◌, ◌++◌, drop}
use Rattle.drawing.specs.Escaping.{escaped}
use Rattle.drawing.proofs.escaping.push_escaped.Given as goal

-- what was added and what is left to add are the whole text
abbrev pub invariant-loop-byte : goal.invariant-loop-byte
invariant-loop-byte l = record { added : l.out.items ++ escaped (drop l.byte-index l.text) ≡ l.fn.out.items ++ escaped l.text }
