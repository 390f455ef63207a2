-- The machines of the two nodes after a trace.
use Rattle.std.specs.Prelude.{◌≡◌, ◌⊎◌, ℕ, suc, List, take}
use Rattle.vst_base.specs.Machines.{MachineMeaning, state_after}
use Rattle.vst_base.specs.declared.pb_out.PbOut.{PbOut}
use Rattle.vst_base.specs.declared.step.Item.{Item}
use Rattle.net_semantics.specs.BelowPb.{replies_in, inputs_at, outputs_at}
use Rattle.primary_backup.specs.Backup.{Backed}

-- how often the primary replied
abbrev pub replies : {C O : Type 0} → List (Item C (PbOut O)) → ℕ
replies items = replies_in (outputs_at 0 items)

module _ {S C O : Type 0} where
  -- the machine after so many of the first inputs at the primary
  abbrev pub machine_after : MachineMeaning S C O → ℕ → List (Item C (PbOut O)) → S
  machine_after m k items = state_after m m.init (take k (inputs_at 0 items))

  -- the primary's machine has taken as many inputs as were replied to, and the backup's as many or one more
  pub record AreFollowing (m : MachineMeaning S C O) (items : List (Item C (PbOut O))) (nodes : ℕ → Backed S C) : Type 0 where
    pub primary : (nodes 0).machine ≡ machine_after m (replies items) items
    pub backup : ((nodes 1).machine ≡ machine_after m (replies items) items) ⊎ ((nodes 1).machine ≡ machine_after m (suc (replies items)) items)
