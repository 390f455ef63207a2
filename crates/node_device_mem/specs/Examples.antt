-- Scripts and records of known parts, whose vectors are any that hold these items.
use Rattle.std.specs.Prelude.{◌≡◌, ℕ, Bool, false, List, [], ◌∷◌, Option, Some}
use Rattle.std.specs.Global.{Vec}
use Rattle.disk.specs.Acts.{Act, Wrote}
use Rattle.disk.specs.Disk.{Disk, settled}
use Rattle.node_device.specs.Examples.{node_at, shows}
use Rattle.node_device.specs.Telling.{Told}
use Rattle.node_device_mem.specs.Histories.{act_of}
use Rattle.node_device_mem.specs.MemoryDevices.{is_due_now}
use Rattle.node_device_mem.specs.Scripts.{due_at}
use Rattle.node_device_mem.specs.declared.history.History.{History}
use Rattle.node_device_mem.specs.declared.memory.MemoryDevice.{MemoryDevice}
use Rattle.node_device_mem.specs.declared.past.Past.{Past}
use Rattle.node_device_mem.specs.declared.past.PastAct.{PastAct}
use Rattle.node_device_mem.specs.declared.past.PastAct.TheVariants as past
use Rattle.node_device_mem.specs.declared.steady.Arrival.{Arrival}
use Rattle.node_device_mem.specs.declared.steady.Arrival.TheVariants as arrival

-- whether the next call is to fail by a script of these numbers and this stop, after so many calls and acts
abbrev pub is_due_by : List ℕ → Option ℕ → ℕ → ℕ → Bool → Type 0
is_due_by numbers stop calls acts due =
    (failing : Vec ℕ) → failing.items ≡ numbers → due_at (record { failing = failing; last = stop; calls = calls }) acts ≡ due

-- an act of a record with bytes is this
abbrev pub stands_for : (Vec ℕ → PastAct) → (List ℕ → Act) → Type 0
stands_for noted act = (bytes : Vec ℕ) → act_of (noted bytes) ≡ act bytes.items

-- an act, before which so many clock values were given, the last of them after the act before
abbrev pub past_after : ℕ → ℕ → PastAct → Past
past_after from nows act = record { from = from; nows = nows; act = act }

-- This holds of a record of these acts, after which so many clock values were given, the last of them after the last act, by a clock that
-- gives 5 and then 9.
abbrev pub of_record : List Past → ℕ → ℕ → Bool → (History → Type 0) → Type 0
of_record acts from nows full P =
    (past : Vec Past) (clock : Vec ℕ) → past.items ≡ acts → clock.items ≡ 5 ∷ 9 ∷ [] →
    P (record { past = past; clock = clock; from = from; nows = nows; is_full = full })

-- a clock value, a quiet wait, and a sync of slot 0
abbrev pub quiet_and_synced : List Past
quiet_and_synced = past_after 0 1 (past.Quiet 300) ∷ past_after 1 0 (past.Synced 0) ∷ []

-- the same and two clock values more
abbrev pub of_five : (History → Type 0) → Type 0
of_five P = of_record quiet_and_synced 1 2 false P

-- areas of which slot 0 holds these bytes, and nothing is pending
abbrev pub first_disk_of : List ℕ → Disk
first_disk_of bytes = record { slot0 = settled bytes; slot1 = settled []; selector = settled [] }

-- the byte 9 written at the start of slot 0, and what is told then where it held 1 and 2
abbrev pub wrote_9 : Act
wrote_9 = Wrote 0 0 (9 ∷ [])

abbrev pub told_9 : Option Told
told_9 = shows (wrote_9 ∷ []) (record { bytes = 9 ∷ 2 ∷ []; ranges = (0, 1) ∷ []; lengths = 2 ∷ [] })

-- whether the next call of a device with this record is to fail where each after so many acts is
abbrev pub stops_at : ℕ → History → Bool → Type 0
stops_at acts history due =
    (device : MemoryDevice) → device.script.failing.items ≡ [] → device.script.last ≡ Some acts → device.steady.history ≡ history →
    is_due_now device ≡ due

-- a quiet wait, and then a datagram from node 1
abbrev pub quiet_then : Vec ℕ → List Arrival
quiet_then bytes = arrival.Quiet ∷ arrival.Datagram (node_at 7001) bytes ∷ []
