use Rattle.std.proofs.Common.{◌≡◌, ◌+◌, ◌-◌, ◌≤◌, length, drop}
use Rattle.raft_log.specs.Accepting.{agreed}
use Rattle.raft_log.proofs.accept.agreed.Given as goal

abbrev pub invariant-loop-count : goal.invariant-loop-count
invariant-loop-count g l = ((l.count ≤ length l.old) × (l.count ≤ length l.new)) × (agreed l.old l.new ≡ l.count + agreed (drop l.count l.old) (drop l.count l.new))

abbrev pub decreases-loop-count : goal.decreases-loop-count
decreases-loop-count g l = length l.old - l.count
