use Rattle.act_network.proofs.Stepping.{states_agree}
use Rattle.act_network.proofs.laws.states_agree.Goals as goal

pub returns : goal.returns
returns g c =
    let t = g.D.SavesStates in
    states_agree _ _ _ _ t.disks t.can_save (record { Holds = t.holds; rests = t.rests; saves = t.saves; reopens = t.reopens })
