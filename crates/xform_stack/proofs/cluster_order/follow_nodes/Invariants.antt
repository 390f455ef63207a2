use Rattle.xform_stack.proofs.ByNode.{Follows}
use Rattle.xform_stack.proofs.cluster_order.follow_nodes.Given as goal

abbrev pub invariant-loop-n : goal.invariant-loop-n
invariant-loop-n g l =
    let h = g.W.Network.within l.network in
    Follows (g.M.Machine.meaning h.machine) h.nodes (g.W.Network.follows l.network) l.n l.initial.order l.order
