-- The lives of a node: one process after the other over the same areas, each killed at any moment.
use Rattle.std.specs.Prelude.{◌≡◌, ℕ, true, List, [], ◌∷◌, ◌++◌, ◌⊎◌}
use Rattle.disk.specs.Acts.{Act}
use Rattle.disk.specs.Disk.{Disk, Image, after, may_hold}
use Rattle.lists.specs.Prefixes.{IsPrefix}
use Rattle.node_config.specs.declared.config.Config.{Config}
use Rattle.node_device.specs.Telling.{NoMore, Told}
use Rattle.udp_node.specs.Serving.{EndsWith, HasServed}
use Rattle.udp_node.specs.declared.fault.NodeFault.{NodeFault}
use Rattle.vst_base.specs.Machines.{MachineMeaning}
use Rattle.vst_base.specs.declared.stack.StackId.{StackId}
use Rattle.wire_fields.specs.Formats.{Format}

-- what the device told as it had begun, with what stood on the areas then, and what was done from there until the process was killed
pub record Life : Type 0 where
  pub begun : Told
  pub acts : List Act

-- the areas at its end, with what is pending on them
abbrev pub left_by : Life → Disk
left_by life = after life.begun.disk life.acts

abbrev pub left_by_all : Disk → List Life → Disk
left_by_all disk [] = disk
left_by_all disk (life ∷ lives) = left_by_all (left_by life) lives

-- nothing was saved yet: area 2 is empty, and a crash leaves it so
abbrev pub IsFresh : Disk → Type 0
IsFresh disk = (image : Image) → may_hold disk image ≡ true → image.selector ≡ []

module _ {S C O : Type 0} (s : StackId) (config : Config) (m : MachineMeaning S C O) (f : Format C) (g : Format O) where
  -- what a process that nobody kills does from there on: it serves so many turns, or ends by a fault
  abbrev pub Runs : Told → Told → Type 0
  Runs before now =
      ((turns : ℕ) × HasServed s config m f g turns before now)
      ⊎ ((fault : NodeFault) × (most : ℕ) × EndsWith s config m f g fault most before now)

  -- a front of that, since a kill may come at any moment
  pub record IsLife (life : Life) : Type 0 where
    pub now : Told
    pub whole : List Act
    pub runs : Runs life.begun now
    pub told : now.acts ≡ life.begun.acts ++ whole
    pub front : IsPrefix life.acts whole

  -- Each finds areas of which a crash leaves no more than of those that the one before it left. So nobody else wrote to them.
  abbrev pub AreLives : Disk → List Life → Type 0
  AreLives disk [] = Unit {0}
  AreLives disk (life ∷ lives) = NoMore disk life.begun.disk × IsLife life × AreLives (left_by life) lives
