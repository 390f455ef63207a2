use Rattle.act_raft.proofs.Linear.{acts_are_linearizable, schedules_are_linearizable}
use Rattle.act_raft.proofs.laws.acts_are_linearizable.Goals as goal

pub returns : goal.returns
returns g c =
    let t = g.D.SavesStates in
    record {
      acts = acts_are_linearizable _ _ t.disks t.can_save (record { Holds = t.holds; rests = t.rests; saves = t.saves; reopens = t.reopens });
      schedules = schedules_are_linearizable _ _ t.disks t.can_save (record { Holds = t.holds; rests = t.rests; saves = t.saves; reopens = t.reopens });
    }
