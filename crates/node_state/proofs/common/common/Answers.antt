use Rattle.std.proofs.Common.{arith, drop, length-drop}
use Rattle.node_state.proofs.Commons.{common_few, common_from, common_with_no_entries}
use Rattle.node_state.proofs.common.common.Goals as goal

pub loop-count-init : goal.loop-count-init
loop-count-init g c =
    ((common_few c.args.terms.now c.args.log.now c.args.same c.requires), common_from c.args.terms.now c.args.log.now c.args.same c.requires)

pub returns-else-count-log-clause-common : goal.returns-else-count-log-clause-common
returns-else-count-log-clause-common g c =
    let n = c.loop-count.count in
    let q = common_with_no_entries (drop n c.args.terms.now) (drop n c.args.log.now) (omega (arith, c.if-count-log.false, length-drop n c.args.log.now)) in
    omega (arith, c.loop-count.invariant.1, q)
