use Rattle.act_network.proofs.Stepping.{down_nodes_open}
use Rattle.act_network.proofs.laws.down_nodes_open.Goals as goal

pub returns : goal.returns
returns g c =
    let t = g.D.SavesStates in
    down_nodes_open _ _ _ _ t.disks t.can_save (record { Holds = t.holds; rests = t.rests; saves = t.saves; reopens = t.reopens })
