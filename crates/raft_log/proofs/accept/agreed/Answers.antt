use Rattle.std.proofs.Common.{arith, drop, length-drop}
use Rattle.raft_log.proofs.Accepting.{agreed_with_none}
use Rattle.raft_log.proofs.accept.agreed.Goals as goal

pub returns-after-loop-count-clause-agreed : goal.returns-after-loop-count-clause-agreed
returns-after-loop-count-clause-agreed g c =
    let n = c.loop-count.count in
    let q = agreed_with_none (drop n c.args.old.now) (drop n c.args.new.now) (omega (arith, c.loop-count-test.false, length-drop n c.args.old.now)) in
    omega (arith, c.loop-count.invariant.1, q)
