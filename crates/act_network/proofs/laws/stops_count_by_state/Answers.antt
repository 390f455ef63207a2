use Rattle.act_network.proofs.Stepping.{stops_count_by_state}
use Rattle.act_network.proofs.laws.stops_count_by_state.Goals as goal

pub returns : goal.returns
returns g c =
    let t = g.D.SavesStates in
    stops_count_by_state _ _ _ _ t.disks t.can_save (record { Holds = t.holds; rests = t.rests; saves = t.saves; reopens = t.reopens })
