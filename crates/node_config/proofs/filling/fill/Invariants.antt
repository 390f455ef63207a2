use Rattle.std.proofs.Common.{◌≡◌, ◌-◌, ◌≤◌, ℕ, List, Some, length, take, drop, option_map}
use Rattle.node_config.proofs.filling.fill.Given as goal

-- the front of the buffer is what was taken so far
abbrev pub invariant-loop-len : goal.invariant-loop-len
invariant-loop-len g l =
    let s = g.S.Source in
    record {
      size : length l.buf ≡ length l.fn.buf;
      within : l.len ≤ length l.buf;
      reached : (bytes : List ℕ) → s.left l.fn.source ≡ Some bytes → l.len ≤ length bytes;
      same : (bytes : List ℕ) → s.left l.fn.source ≡ Some bytes → take l.len l.buf ≡ take l.len bytes;
      taken : s.left l.source ≡ option_map (drop l.len) (s.left l.fn.source);
      quiet : s.faults l.source ≡ s.faults l.fn.source;
    }

abbrev pub decreases-loop-len : goal.decreases-loop-len
decreases-loop-len g l = length l.buf - l.len
