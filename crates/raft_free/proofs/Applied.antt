-- What two nodes have applied is the same.
use Rattle.std.proofs.Common.{arith}
use Rattle.raft_histories.proofs.Completing.{committed_agree}
use Rattle.raft_histories.proofs.Growing.{committed_fits, committed_grow}
use Rattle.raft_histories.proofs.Logs.{same_sym}
use Rattle.raft_free.specs.Safety.{StateMachineSafety}
use Rattle.raft_free.proofs.Running.{both}

pub state_machine_safety : (C : Type 0) → StateMachineSafety C
state_machine_safety C n v w i j k t p q =
    let b = both t in
    let x = b.first.node i in
    let y = b.second.node j in
    let cx = committed_grow (v.node i).log b.grows (v.node i).term (omega arith) x.committed in
    let s = committed_agree C n b.late (v.node i).log (w.node j).log (v.node i).commit (w.node j).commit (v.node i).term (w.node j).term k b.second.past cx y.committed
    (omega (arith, x.applied)) (omega (arith, y.applied)) in
    let f = committed_fits (v.node i).log cx in
    let h = committed_fits (w.node j).log y.committed in
    ((omega (arith, x.applied), s.eq), (omega (arith, y.applied), (same_sym s).eq))
