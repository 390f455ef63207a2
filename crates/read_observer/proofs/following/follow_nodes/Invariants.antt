use Rattle.xform_stack.proofs.ByNode.{Follows}
use Rattle.read_observer.specs.Observed.{cluster_in}
use Rattle.read_observer.proofs.Events.{Stands}
use Rattle.read_observer.proofs.following.follow_nodes.Given as goal

abbrev pub invariant-loop-n : goal.invariant-loop-n
invariant-loop-n g l =
    let h = g.W.Network.within l.network in
    let m = g.M.Machine.meaning h.machine in
    Follows m h.nodes (Stands (cluster_in m (g.M.Queries.reads h.machine) h.nodes) (g.W.Network.follows l.network)) l.n l.initial.order l.order
