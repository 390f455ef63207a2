use Rattle.std.proofs.Common.{◌≡◌, drop}
use Rattle.schedule_text.specs.Headers.{header_among}
use Rattle.schedule_text.proofs.headers.header_among.Given as goal

-- no pairing so far fits, so the rest of them decide
abbrev pub invariant-loop-row : goal.invariant-loop-row
invariant-loop-row l = header_among (drop l.row-index l.rows) l.line ≡ header_among l.rows l.line
