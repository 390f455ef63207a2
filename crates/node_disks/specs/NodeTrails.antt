-- The disks of a cluster's nodes, by whose acts and openings real nodes save and find their states.
use Rattle.std.specs.Prelude.{ℕ, Option}
use Rattle.disk.specs.Acts.{Act}
use Rattle.disk.specs.Disk.{Image, may_become}
use Rattle.disk.specs.Images.{Trail}
use Rattle.raft_types.specs.Messages.{KeptView}
use Rattle.vst_base.specs.declared.stack.StackId.{StackId}
use Rattle.wire_fields.specs.Formats.{Format}
use Rattle.node_acts.specs.Stores.{StoreView}
use Rattle.node_body.specs.declared.who.Who.{Who}
use Rattle.node_state.specs.Changes.{ChangeView, change_to, changed_by}
use Rattle.act_network.specs.Disks.{Disks}
use Rattle.act_disks.specs.NodeStores.{NodeHolds, node_stores}
use Rattle.node_disks.specs.TrailDisks.{Changes, trail_disks}

module _ {C : Type 0} (s : StackId) (f : Format C) where
  abbrev pub node_changes : Changes (KeptView C) StoreView ChangeView
  node_changes = record { change_to = λ store kept. change_to s f store kept; changed_by = changed_by }

  module _ (who : ℕ → Who) where
    abbrev pub node_disks : Disks (KeptView C) (StoreView × Trail) (Act × Option ChangeView) Image
    node_disks = trail_disks may_become (node_stores s f who) node_changes

    -- at rest, holding this state, and as the node knows
    abbrev pub HoldsTrail : ℕ → KeptView C → StoreView × Trail → Type 0
    HoldsTrail n kept disk = NodeHolds s f who n disk.0 kept disk.1.disk
