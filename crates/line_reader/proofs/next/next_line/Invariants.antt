use Rattle.std.proofs.Common.{◌≡◌, ◌-◌, ◌≤◌, ℕ, List, [], length, None, Some}
use Rattle.line_reader.specs.Lines.{cut_at}
use Rattle.line_reader.specs.Readers.{HasRest}
use Rattle.line_reader.proofs.Taking.{Begun}
use Rattle.line_reader.proofs.next.next_line.Given as goal

-- the line so far has no newline, and with what comes later it is the rest of the text
abbrev pub invariant-loop-reader : goal.invariant-loop-reader
invariant-loop-reader g l =
    let s = g.S.Source in
    record {
      told : (rest : List ℕ) → HasRest l.fn.reader (s.left l.fn.source) rest → Begun l.reader (s.left l.source) rest;
      plain : cut_at 10 l.reader.line ≡ None;
      short : length l.reader.line ≤ 4096;
      number : l.reader.number ≡ l.fn.reader.number;
      most : l.reader.most ≡ l.fn.reader.most;
      events : l.reader.events ≡ l.fn.reader.events;
      ended : l.reader.ended ≡ l.fn.reader.ended;
      quiet : s.faults l.source ≡ s.faults l.fn.source;
      first : (cut : List ℕ × List ℕ) → cut_at 10 l.fn.reader.ahead ≡ Some cut → (l.reader.ahead ≡ l.fn.reader.ahead) × (l.reader.line ≡ [])
          × (l.source ≡ l.fn.source);
    }

abbrev pub decreases-loop-reader : goal.decreases-loop-reader
decreases-loop-reader g l = 4097 - length l.reader.line
