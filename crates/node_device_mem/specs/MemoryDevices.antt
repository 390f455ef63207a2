-- What a device over memory tells whose calls fail by a script.
use Rattle.std.specs.Prelude.{◌≡◌, Bool, Option}
use Rattle.disk.specs.Disk.{Disk}
use Rattle.node_device.specs.Faults.{Faults}
use Rattle.node_device.specs.Telling.{Told}
use Rattle.node_device_mem.specs.Histories.{acts_counted}
use Rattle.node_device_mem.specs.Devices.{SteadyStays, steady_told, first_disk}
use Rattle.node_device_mem.specs.Scripts.{due_at}
use Rattle.node_device_mem.specs.declared.memory.MemoryDevice.{MemoryDevice}

abbrev pub memory_told : MemoryDevice → Option Told
memory_told device = steady_told device.steady

abbrev pub memory_begun : MemoryDevice → Bool
memory_begun device = device.steady.begun

abbrev pub memory_first : MemoryDevice → Disk
memory_first device = first_disk device.steady

abbrev pub faults_of : MemoryDevice → Faults
faults_of device = record {
  begin = device.counts.begin;
  receive = device.counts.receive;
  store = device.counts.store;
  send = device.counts.send;
}

-- whether its next call is to fail
abbrev pub is_due_now : MemoryDevice → Bool
is_due_now device = due_at device.script (acts_counted device.steady.history)

-- what no call changes: what a steady one keeps, which calls fail, and the stop
pub record Stays (old new : MemoryDevice) : Type 0 where
  pub steady : SteadyStays old.steady new.steady
  pub failing : new.script.failing.items ≡ old.script.failing.items
  pub stop : new.script.last ≡ old.script.last
