use Rattle.std.proofs.Common.{◌≡◌}
use Rattle.outside.specs.Wholes.{Gave}
use Rattle.drawn_schedules.proofs.reading.read_whole.Given as goal

-- the bytes so far, and no read failed
abbrev pub invariant-loop : goal.invariant-loop
invariant-loop g l =
    let s = g.S.Source in
    record {
      told : Gave (s.left l.fn.source) (s.left l.source) l.bytes.items;
      quiet : s.faults l.source ≡ s.faults l.fn.source;
    }
