-- Which calls of a device over memory fail, and what the others come to.
use Rattle.std.specs.Prelude.{◌≡◌, ℕ, min, Bool, true, false, ◌||◌, nat_le, Option, Some, None, List, [], ◌∷◌, length, take, slice_get, option_and_then}
use Rattle.std.specs.Option.{option_map_or}
use Rattle.outside.specs.Counting.{counted}
use Rattle.outside.specs.declared.device.Address.{Address}
use Rattle.outside.specs.declared.device.Begun.{Begun}
use Rattle.outside.specs.declared.device.Begun.TheVariants as begun
use Rattle.outside_mem.specs.Counts.{is_due}
use Rattle.disk.specs.Acts.{StoreCall, Act, StoreFailed}
use Rattle.node_device.specs.Telling.{Told, Did}
use Rattle.node_device.specs.declared.device.Stored.{Stored}
use Rattle.node_device.specs.declared.device.Stored.TheVariants as stored
use Rattle.node_device.specs.declared.device.AreaRead.{AreaRead}
use Rattle.node_device.specs.declared.device.AreaRead.TheVariants as read
use Rattle.node_device.specs.declared.device.Shipped.{Shipped}
use Rattle.node_device.specs.declared.device.Shipped.TheVariants as shipped
use Rattle.node_device.specs.declared.device.Received.{Received}
use Rattle.node_device.specs.declared.device.Received.TheVariants as received
use Rattle.node_device_mem.specs.declared.script.Script.{Script}
use Rattle.node_device_mem.specs.declared.steady.Arrival.{Arrival}
use Rattle.node_device_mem.specs.declared.steady.Arrival.TheVariants as arrival

-- whether the next call is to fail, after so many acts
abbrev pub due_at : Script → ℕ → Bool
due_at script acts = is_due script.failing.items script.calls || option_map_or (λ last. nat_le last acts) script.last false

-- a script after one call more
abbrev pub called : Script → Script
called script = record script { calls = counted script.calls }

-- A call that is due fails, and no other does. Either may want memory.

abbrev pub BeginsBy : Bool → Begun → Type 0
BeginsBy due begun.Ready = due ≡ false
BeginsBy due begun.Failed = due ≡ true
BeginsBy due begun.Memory = Unit {0}

abbrev pub ReceivesBy : Bool → Received → Type 0
ReceivesBy due (received.Datagram from len) = due ≡ false
ReceivesBy due received.Quiet = due ≡ false
ReceivesBy due received.Failed = due ≡ true
ReceivesBy due received.Memory = Unit {0}

abbrev pub SendsBy : Bool → Shipped → Type 0
SendsBy due shipped.Sent = due ≡ false
SendsBy due shipped.Failed = due ≡ true
SendsBy due shipped.Memory = Unit {0}

abbrev pub ReadsBy : Bool → AreaRead → Type 0
ReadsBy due (read.Got n) = due ≡ false
ReadsBy due read.Failed = due ≡ true
ReadsBy due read.Memory = Unit {0}

abbrev pub StoresBy : Bool → Stored → Type 0
StoresBy due stored.Done = due ≡ false
StoresBy due stored.Failed = due ≡ true
StoresBy due stored.Memory = Unit {0}

-- A store call does to the areas just what it stands for in the record, also where it fails: a write or cut that failed is done.
abbrev pub StoresExactly : StoreCall → Act → Option Told → Option Told → Stored → Type 0
StoresExactly call act old new stored.Done = Did old new (act ∷ [])
StoresExactly call act old new stored.Failed = Did old new (StoreFailed call ∷ [])
StoresExactly call act old new stored.Memory = new ≡ old

abbrev pub datagram_of : Arrival → Option (Address × List ℕ)
datagram_of (arrival.Datagram from bytes) = Some (from, bytes.items)
datagram_of arrival.Quiet = None

-- the datagram that arrives after so many arrivals, if one does
abbrev pub next_arrival : List Arrival → ℕ → Option (Address × List ℕ)
next_arrival arrivals n = option_and_then datagram_of (slice_get arrivals n)

-- a datagram cut to so many bytes
abbrev pub cut_to : ℕ → Option (Address × List ℕ) → Option (Address × List ℕ)
cut_to room None = None
cut_to room (Some datagram) = Some (datagram.0, take room datagram.1)

-- what a receive comes to where this datagram arrives, and what it leaves in the buffer
abbrev pub Brings : Option (Address × List ℕ) → List ℕ → Received → Type 0
Brings (Some datagram) after (received.Datagram from len) =
    (from ≡ datagram.0) × (len ≡ min (length datagram.1) (length after)) × (take len after ≡ take len datagram.1)
Brings (Some datagram) after received.Quiet = ⊥
Brings None after (received.Datagram from len) = ⊥
Brings next after answer = Unit {0}

-- how many arrivals were received after a receive with this answer
abbrev pub received_after : ℕ → Received → ℕ
received_after n (received.Datagram from len) = counted n
received_after n received.Quiet = counted n
received_after n received.Failed = n
received_after n received.Memory = n
