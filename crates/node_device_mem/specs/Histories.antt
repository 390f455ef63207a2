-- The record of a device over memory.
use Rattle.std.specs.Prelude.{◌≡◌, ℕ, zero, suc, ◌+◌, ◌-◌, ◌^◌, min, List, [], ◌∷◌, ◌++◌, length, slice_get, flat_map, Option, Some, None, unwrap_or, if◌then◌else◌}
use Rattle.outside.specs.Counting.{counted}
use Rattle.disk.specs.Acts.{ReadAt, WriteAt, CutTo, Sync, Act, Began, BeginFailed, Now, Took, Quiet, ReceiveFailed, Sent, SendFailed, Wrote, Cut, Synced, StoreFailed}
use Rattle.node_device_mem.specs.declared.past.PastAct.{PastAct}
use Rattle.node_device_mem.specs.declared.past.PastAct.TheVariants as past
use Rattle.node_device_mem.specs.declared.past.Past.{Past}
use Rattle.node_device_mem.specs.declared.history.History.{History}

abbrev pub act_of : PastAct → Act
act_of (past.Began at dir) = Began at dir.items
act_of (past.BeginFailed at dir) = BeginFailed at dir.items
act_of (past.Took wait from bytes) = Took wait from bytes.items
act_of (past.Quiet wait) = Quiet wait
act_of (past.ReceiveFailed wait) = ReceiveFailed wait
act_of (past.Sent to bytes) = Sent to bytes.items
act_of (past.SendFailed to bytes) = SendFailed to bytes.items
act_of (past.Wrote area at bytes) = Wrote area at bytes.items
act_of (past.Cut area len) = Cut area len
act_of (past.Synced area) = Synced area
act_of (past.ReadFailed area at room) = StoreFailed (ReadAt area at room)
act_of (past.WriteFailed area at bytes) = StoreFailed (WriteAt area at bytes.items)
act_of (past.CutFailed area len) = StoreFailed (CutTo area len)
act_of (past.SyncFailed area) = StoreFailed (Sync area)

-- the value of a scripted clock at a place, counted from 0: after the end of the script its last value again, or 0 where it is empty
abbrev pub clock_value : List ℕ → ℕ → ℕ
clock_value clock place = unwrap_or (slice_get clock (min place (length clock - 1))) 0

-- how many values its clock gave, as long as they can be counted
abbrev pub clock_place : History → ℕ
clock_place history = min (history.from + history.nows) (2 ^ 64 - 1)

-- the next value of its clock
abbrev pub next_value : History → ℕ
next_value history = clock_value history.clock.items (history.from + history.nows)

-- its clock stands where it stood
pub record SameClock (old new : History) : Type 0 where
  pub values : new.clock.items ≡ old.clock.items
  pub place : clock_place new ≡ clock_place old

-- so many values from a place on
abbrev pub nows_from : List ℕ → ℕ → ℕ → List Act
nows_from clock place zero = []
nows_from clock place (suc n) = Now (clock_value clock place) ∷ nows_from clock (suc place) n

-- an act after the clock values that it came after
abbrev pub acts_of : List ℕ → Past → List Act
acts_of clock past = nows_from clock past.from past.nows ++ act_of past.act ∷ []

-- acts and clock values, and then so many values more
abbrev pub all_acts : List ℕ → List Past → ℕ → ℕ → List Act
all_acts clock pasts from nows = flat_map (acts_of clock) pasts ++ nows_from clock from nows

-- the record, as long as the clock values after each act could be counted
abbrev pub acts_told : History → Option (List Act)
acts_told history =
    if history.is_full then None else Some (all_acts history.clock.items history.past.items history.from history.nows)

-- how many acts there are, clock values among them, as long as they can be counted
abbrev pub acts_counted : History → ℕ
acts_counted history =
    min (length (all_acts history.clock.items history.past.items history.from history.nows)) (2 ^ 64 - 1)

-- a count after an act and the clock values before it
abbrev pub counted_on : ℕ → Past → ℕ
counted_on acts past = counted (min (acts + past.nows) (2 ^ 64 - 1))
