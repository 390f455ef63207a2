-- Acts on areas as the disk's model has them.
use Rattle.std.specs.Prelude.{ℕ, List, map}
use Rattle.disk.specs.Acts.{Act, Wrote, Cut, Synced}
use Rattle.store_acts.specs.declared.act.AreaId.{AreaId}
use Rattle.store_acts.specs.declared.act.AreaId.TheVariants as id
use Rattle.store_acts.specs.declared.act.StoreAct.{StoreAct}
use Rattle.store_acts.specs.declared.act.StoreAct.TheVariants as act

abbrev pub number_of : AreaId → ℕ
number_of id.Slot0 = 0
number_of id.Slot1 = 1
number_of id.Selector = 2

abbrev pub act_of : StoreAct → Act
act_of (act.Write area at bytes) = Wrote (number_of area) at bytes.items
act_of (act.Cut area len) = Cut (number_of area) len
act_of (act.Sync area) = Synced (number_of area)

abbrev pub acts_of : List StoreAct → List Act
acts_of acts = map act_of acts
