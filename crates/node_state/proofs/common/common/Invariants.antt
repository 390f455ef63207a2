use Rattle.std.proofs.Common.{◌≡◌, ◌+◌, ◌-◌, ◌≤◌, length, drop}
use Rattle.node_acts.specs.Stores.{common}
use Rattle.node_state.proofs.common.common.Given as goal

abbrev pub invariant-loop-count : goal.invariant-loop-count
invariant-loop-count g l = ((l.count ≤ length l.terms) × (l.count ≤ length l.log)) × (common l.terms l.log ≡ l.count + common (drop l.count l.terms) (drop l.count l.log))

abbrev pub decreases-loop-count : goal.decreases-loop-count
decreases-loop-count g l = length l.terms - l.count
