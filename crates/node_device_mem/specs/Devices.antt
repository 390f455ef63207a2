-- What devices over memory tell.
use Rattle.std.specs.Prelude.{◌≡◌, ℕ, List, [], ◌∷◌, ◌++◌, Option, option_map, IfSome}
use Rattle.disk.specs.Acts.{Act}
use Rattle.disk.specs.Disk.{Disk, after}
use Rattle.node_device.specs.Faults.{Faults}
use Rattle.node_device.specs.Telling.{Told}
use Rattle.node_device_mem.specs.MemoryDisks.{disk_of}
use Rattle.node_device_mem.specs.Histories.{acts_told, clock_place}
use Rattle.node_device_mem.specs.declared.steady.SteadyDevice.{SteadyDevice}

-- acts where they are told, and a disk
abbrev pub told_by : Option (List Act) → Disk → Option Told
told_by acts disk = option_map (λ (told : List Act). record { acts = told; disk = disk }) acts

abbrev pub steady_told : SteadyDevice → Option Told
steady_told device = told_by (acts_told device.history) (disk_of device.disk)

abbrev pub first_disk : SteadyDevice → Disk
first_disk device = disk_of device.first

abbrev pub no_faults : Faults
no_faults = record { begin = 0; receive = 0; store = 0; send = 0 }

-- an act in the record, and this made of the areas
abbrev pub noted_with : Act → (Disk → Disk) → Option Told → Option Told
noted_with act f told = option_map (λ (t : Told). record { acts = t.acts ++ act ∷ []; disk = f t.disk }) told

-- an act in the record, the areas as they were
abbrev pub noted : Act → Option Told → Option Told
noted act told = noted_with act (λ disk. disk) told

-- what no call changes: the areas at first, and the scripts of arrivals and of clock values
pub record SteadyStays (old new : SteadyDevice) : Type 0 where
  pub first : first_disk new ≡ first_disk old
  pub arrivals : new.arrivals.items ≡ old.arrivals.items
  pub clock : new.history.clock.items ≡ old.history.clock.items

-- how far it is in its scripts: how many arrivals were received, and how many clock values given
pub record Places : Type 0 where
  pub received : ℕ
  pub clock : ℕ

abbrev pub places_of : SteadyDevice → Places
places_of device = record { received = device.received; clock = clock_place device.history }

-- the areas are as the acts left them
abbrev pub AreasFollow : Disk → Option Told → Type 0
AreasFollow first told = IfSome told (λ t. t.disk ≡ after first t.acts)
