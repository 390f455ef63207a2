-- How a node goes from turn to turn, and where it halts, by what its device tells before and after.
use Rattle.std.specs.Prelude.{◌≡◌, ℕ, true, List, ◌++◌}
use Rattle.disk.specs.Acts.{Act}
use Rattle.disk.specs.Disk.{Image, may_hold}
use Rattle.raft_types.specs.Messages.{KeptView}
use Rattle.slots.specs.Opening.{OpensAs}
use Rattle.vst_base.specs.Machines.{MachineMeaning}
use Rattle.vst_base.specs.declared.stack.StackId.{StackId}
use Rattle.wire_fields.specs.Formats.{Format}
use Rattle.node_body.specs.declared.who.Who.{Who}
use Rattle.node_acts.specs.Stores.{StoreView, Holds, found_by}
use Rattle.node_device.specs.Telling.{Told, told_after}
use Rattle.node_run.specs.Runs.{NodeView, Stage, Between, done_in, stage_after}
use Rattle.node_run.specs.Settings.{Settings}
use Rattle.node_records.specs.Records.{AreRecord, IsStopped, kept_by, store_by}
use Rattle.node_records.specs.Moments.{Leaves, LeavesSaved}

-- s is the stack of the node, with commands of the format f and outputs of the format g
module _ {S C O : Type 0} (settings : Settings) (m : MachineMeaning S C O) (s : StackId) (f : Format C) (g : Format O) (who : Who) where
  -- Whole turns: from this stage, kept state and knowledge of the areas, a node went through so many, and stands between two turns as
  -- this one; its areas hold what it keeps, and each image of them opens as that. At each moment a crash leaves what it may, with
  -- all events that are saved.
  pub record Goes (stage : Stage S C O) (kept : KeptView C) (store : StoreView) (count : ℕ) (node : NodeView S C O) (kept_now : KeptView C)
      (store_now : StoreView) (before now : Told) : Type 0 where
    pub did : List Act
    pub is : now ≡ told_after before did
    pub record_is : AreRecord settings m f g stage store count did
    pub stands : stage_after settings m f g stage did ≡ Between node
    pub keeps : kept_by kept (done_in settings m f g stage did) ≡ kept_now
    pub knows : store_by settings.stack f store (done_in settings m f g stage did) ≡ store_now
    pub leaves : LeavesSaved settings m f g (found_by s f who) stage kept store before.disk did
    pub holds : Holds s f store_now kept_now now.disk
    pub ends : (image : Image) → may_hold now.disk image ≡ true → OpensAs (found_by s f who) kept_now image

  -- Turns of which the last was cut short: at most so many. Of the disk it says what a crash leaves.
  pub record Halts (stage : Stage S C O) (kept : KeptView C) (store : StoreView) (most : ℕ) (before now : Told) : Type 0 where
    pub did : List Act
    pub acts : now.acts ≡ before.acts ++ did
    pub stopped : IsStopped settings m f g stage store most did
    pub leaves : Leaves settings m f g (found_by s f who) stage kept before.disk did
