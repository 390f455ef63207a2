use Rattle.std.proofs.Common.{◌≡◌, ◌-◌, ◌≤◌, ℕ, List, true}
use Rattle.line_reader.specs.Readers.{HasRest}
use Rattle.schedule_text.specs.Schedules.{opening}
use Rattle.schedule_text.proofs.Skipping.{Skipped}
use Rattle.schedule_text.proofs.streams.read_header.Given as goal

-- the lines so far were skipped
abbrev pub invariant-loop-fault : goal.invariant-loop-fault
invariant-loop-fault g l =
    let s = g.S.Source in
    record {
      told : (rest : List ℕ) → HasRest l.fn.reader (s.left l.fn.source) rest → Skipped (opening l.fn.reader.most) l.fn.reader l.reader (s.left l.source) rest;
      number : l.fn.reader.number ≤ l.reader.number;
      most : l.reader.most ≡ l.fn.reader.most;
      events : l.reader.events ≡ l.fn.reader.events;
      stays : l.fn.reader.ended ≡ true → l.reader.ended ≡ true;
      quiet : s.faults l.source ≡ s.faults l.fn.source;
    }

abbrev pub decreases-loop-fault : goal.decreases-loop-fault
decreases-loop-fault g l = l.reader.most - l.reader.number
