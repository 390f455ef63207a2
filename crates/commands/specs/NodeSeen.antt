-- What is seen of the outside of a node's run: its streams, and its device.
use Rattle.std.specs.Prelude.{ℕ, ◌-◌, ◌^◌, ◌≤◌, min, Option}
use Rattle.node_device.specs.Faults.{Faults}
use Rattle.node_device.specs.Telling.{Told}
use Rattle.node_device.specs.declared.device.Device.{Ghosts as OfDevice}
use Rattle.commands.specs.Seen.{KeepsCounts, Run}

-- what a device tells, where it tells, and how often its calls have failed
pub record DeviceSeen : Type 0 where
  pub told : Option Told
  pub faults : Faults

abbrev pub device_seen : {D : Type 0} → OfDevice D → D → DeviceSeen
device_seen device d = record { told = device.told d; faults = device.faults d }

pub record NodeRun : Type 0 where
  pub streams : Run
  pub before : DeviceSeen
  pub after : DeviceSeen

abbrev pub node_ran : {D : Type 0} → Run → OfDevice D → (before after : D) → NodeRun
node_ran streams device before after = record { streams = streams; before = device_seen device before; after = device_seen device after }

-- a count of a device did not fall. It goes to the greatest 64-bit number
abbrev pub Keeps : ℕ → ℕ → Type 0
Keeps before now = min before (2 ^ 64 - 1) ≤ now

-- no count of faults fell, of the streams or of the device
pub record KeepsAllCounts (r : NodeRun) : Type 0 where
  pub streams : KeepsCounts r.streams
  pub begin : Keeps r.before.faults.begin r.after.faults.begin
  pub receive : Keeps r.before.faults.receive r.after.faults.receive
  pub store : Keeps r.before.faults.store r.after.faults.store
  pub send : Keeps r.before.faults.send r.after.faults.send
