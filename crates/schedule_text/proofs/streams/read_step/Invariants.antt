use Rattle.std.proofs.Common.{◌≡◌, ◌-◌, ◌≤◌, ℕ, List, true}
use Rattle.line_reader.specs.Readers.{HasRest}
use Rattle.schedule_text.specs.Reading.{tells_next}
use Rattle.schedule_text.specs.Schedules.{script}
use Rattle.schedule_text.proofs.Skipping.{Skipped}
use Rattle.schedule_text.proofs.streams.read_step.Given as goal

-- the lines so far were skipped
abbrev pub invariant-loop-reader : goal.invariant-loop-reader
invariant-loop-reader g l =
    let s = g.S.Source in
    let f = g.A.AppText.input_of in
    record {
      told : (rest : List ℕ) → HasRest l.fn.reader (s.left l.fn.source) rest
          → Skipped (λ n ls. script l.fn.reader.most f n l.fn.reader.events ls) l.fn.reader l.reader (s.left l.source) rest;
      number : l.fn.reader.number ≤ l.reader.number;
      most : l.reader.most ≡ l.fn.reader.most;
      events : l.reader.events ≡ l.fn.reader.events;
      stays : l.fn.reader.ended ≡ true → l.reader.ended ≡ true;
      quiet : s.faults l.source ≡ s.faults l.fn.source;
      first : tells_next l.fn.reader.ahead ≡ true → l.reader ≡ l.fn.reader;
      unread : tells_next l.fn.reader.ahead ≡ true → l.source ≡ l.fn.source;
    }

abbrev pub decreases-loop-reader : goal.decreases-loop-reader
decreases-loop-reader g l = l.reader.most - l.reader.number
