-- One machine explains what clients see of single acts of real nodes.
use Rattle.std.proofs.Common.{refl, length}
use Rattle.std.specs.Prelude.{◌≤◌}
use Rattle.disk.proofs.Between.{IsCrash}
use Rattle.disk.specs.Between.{Crash}
use Rattle.disk.specs.Disk.{Disk}
use Rattle.node_acts.proofs.Helds.{holds_rests}
use Rattle.node_acts.proofs.StateOpens.{found_is_held, fresh_is_held}
use Rattle.node_acts.proofs.StateSaves.{save_keeps_state}
use Rattle.node_acts.specs.StateActs.{state_acts, store_after}
use Rattle.node_acts.specs.StateLaws.{StateSaved}
use Rattle.node_acts.specs.Stores.{StoreView, found_by}
use Rattle.node_body.specs.declared.commands.TheConstants.{MAX_COMMAND}
use Rattle.raft_types.specs.Messages.{KeptView}
use Rattle.slots.specs.TurnLaws.{KeepsBy}
use Rattle.vst_base.specs.declared.stack.StackId.{StackId}
use Rattle.wire_fields.specs.Formats.{Format, IsFormat}
use Rattle.act_raft.proofs.Linear.{acts_are_linearizable}
use Rattle.act_disks.proofs.NodeLaws.{keeps-by, node_laws}
use Rattle.act_disks.proofs.StoreLaws.{store_laws}
use Rattle.act_disks.specs.NodeLaws.{NodesAreLinearizable}
use Rattle.act_disks.specs.NodeStores.{CanSave, empty_areas, node_stores}
use Rattle.act_disks.specs.Stores.{store_disks}

module _ {C : Type 0} (s : StackId) (f : Format C) (is_format : IsFormat f) (short : (c : C) → f.Fits c → length (f.spell c) ≤ MAX_COMMAND)
    (crash : Crash) (is_crash : IsCrash crash) (S O : Type 0)
    (keeps : (v : StoreView) (old new : KeptView C) (disk : Disk) → StateSaved s f v old new disk →
    KeepsBy crash (found_by s f v.who) old new (store_after s f v new).selector (state_acts s f v new) disk) where
  pub nodes_are_linearizable : NodesAreLinearizable {C = C} crash S O s f
  unfolding store_laws node_laws
  nodes_are_linearizable m nodes who size first fits ss taken =
      let saves = save_keeps_state s f is_format short in
      let found = found_is_held s f is_format short in
      let fresh = fresh_is_held s f is_format short in
      let laws = node_laws s f who (holds_rests s f) saves found fits crash
      (λ n v old new disk held saved. keeps-by s f who crash n v old new disk held.who_is (keeps v old new disk saved)) in
      acts_are_linearizable S O (store_disks crash (node_stores s f who)) (CanSave s f who) (store_laws crash (node_stores s f who) is_crash (CanSave s f who) laws) m nodes size
      (λ n. record { who_is = refl; holds = fresh (who n) empty_areas refl (first n) }) ss taken
