use Rattle.act_network.proofs.Saving.{schedules_are_events}
use Rattle.act_network.proofs.laws.schedules_are_events.Goals as goal

pub returns : goal.returns
returns g c =
    let t = g.D.SavesStates in
    schedules_are_events _ _ _ _ t.disks t.can_save (record { Holds = t.holds; rests = t.rests; saves = t.saves; reopens = t.reopens })
