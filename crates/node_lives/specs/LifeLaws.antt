-- The deeds of a node's lives: it stores what it decides before anything of it goes out, and its areas open as what it keeps.
use Rattle.std.specs.Prelude.{◌≡◌, true, List, ◌++◌, length}
use Rattle.cluster_histories.specs.DeedLaws.{MayOpenAfter}
use Rattle.cluster_histories.specs.Deeds.{StoresFirst}
use Rattle.disk.specs.Disk.{Disk, Image, may_hold}
use Rattle.node_acts.specs.Stores.{found_by}
use Rattle.node_config.specs.declared.config.Config.{Config}
use Rattle.node_core.specs.Replicas.{who_of}
use Rattle.raft_types.specs.Messages.{KeptView}
use Rattle.raft_xform.specs.Raft.{raft, raft_recovery}
use Rattle.slots.specs.Opening.{opening}
use Rattle.udp_node.specs.Serving.{StartsFrom}
use Rattle.vst_base.specs.Machines.{MachineMeaning}
use Rattle.vst_base.specs.declared.stack.StackId.{StackId}
use Rattle.wire_fields.specs.Formats.{Format}
use Rattle.node_lives.specs.LifeDeeds.{AreLivesOf, RaftDeed}
use Rattle.node_lives.specs.Lives.{AreLives, IsFresh, Life, left_by_all}

module _ {S C O : Type 0} (s : StackId) (config : Config) (m : MachineMeaning S C O) (f : Format C) (g : Format O) where
  -- A node starts from these areas as its deeds allow: as what it keeps after them, or, where nothing of its last event went out, as
  -- before this event. Empty areas are those of the first state.
  pub record OpensAfter (deeds : List (RaftDeed C O)) (image : Image) : Type 0 where
    pub kept : KeptView C
    pub from : StartsFrom (opening (found_by s f (who_of config)) image) kept
    pub may : MayOpenAfter (raft (length config.peers) m) (raft_recovery m) config.me deeds kept

  -- These are the deeds of these lives, Raft's handlers say the same, nothing goes out that is not stored, and whatever a crash leaves
  -- of the areas now opens as the node keeps it.
  pub record AreStored (first : Disk) (lives : List Life) (deeds : List (RaftDeed C O)) : Type 0 where
    pub of : AreLivesOf s config m f g lives deeds
    pub stores_first : StoresFirst (raft (length config.peers) m) (raft_recovery m) config.me deeds
    pub durable : (image : Image) → may_hold (left_by_all first lives) image ≡ true → OpensAfter deeds image

abbrev pub LivesStoreFirst : {C O : Type 0} → Type 0 → StackId → Format C → Format O → Type 0
LivesStoreFirst {C} {O} S s f g =
    (config : Config) (m : MachineMeaning S C O) (first : Disk) (lives : List Life) → IsFresh first → AreLives s config m f g first lives →
    (deeds : List (RaftDeed C O)) × AreStored s config m f g first lives deeds

-- what later lives add to the deeds of earlier ones
abbrev pub LivesGoOn : {C O : Type 0} → Type 0 → StackId → Format C → Format O → Type 0
LivesGoOn {C} {O} S s f g =
    (config : Config) (m : MachineMeaning S C O) (first : Disk) (early late : List Life) (deeds : List (RaftDeed C O)) →
    AreStored s config m f g first early deeds → AreLives s config m f g (left_by_all first early) late →
    (more : List (RaftDeed C O)) × AreStored s config m f g first (early ++ late) (deeds ++ more)
