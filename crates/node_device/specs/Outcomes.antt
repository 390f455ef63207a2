-- What each call of a device comes to.
use Rattle.std.specs.Prelude.{◌≡◌, ℕ, ◌≤◌, Bool, true, List, [], ◌∷◌, length, take, drop, Option, IfSome}
use Rattle.outside.specs.Streams.{Gives}
use Rattle.outside.specs.declared.device.Address.{Address}
use Rattle.outside.specs.declared.device.Begun.{Begun}
use Rattle.outside.specs.declared.device.Begun.TheVariants as begun
use Rattle.disk.specs.Acts.{StoreCall, ReadAt, Act, Began, BeginFailed, Took, Quiet, ReceiveFailed, Sent, SendFailed, StoreFailed}
use Rattle.disk.specs.Areas.{area_at}
use Rattle.node_device.specs.Telling.{Told, Did, WhereTold, Recorded}
use Rattle.node_device.specs.declared.device.Stored.{Stored}
use Rattle.node_device.specs.declared.device.Stored.TheVariants as stored
use Rattle.node_device.specs.declared.device.AreaRead.{AreaRead}
use Rattle.node_device.specs.declared.device.AreaRead.TheVariants as read
use Rattle.node_device.specs.declared.device.Shipped.{Shipped}
use Rattle.node_device.specs.declared.device.Shipped.TheVariants as shipped
use Rattle.node_device.specs.declared.device.Received.{Received}
use Rattle.node_device.specs.declared.device.Received.TheVariants as received

abbrev pub Begins : Bool → Bool → Option Told → Option Told → Address → List ℕ → Begun → Type 0
Begins was is old new at dir begun.Ready = (is ≡ true) × Did old new (Began at dir ∷ [])
Begins was is old new at dir begun.Failed = (is ≡ was) × Did old new (BeginFailed at dir ∷ [])
Begins was is old new at dir begun.Memory = (is ≡ was) × (new ≡ old)

-- a store call that is this act where it is done
abbrev pub Stores : StoreCall → Act → Option Told → Option Told → Stored → Type 0
Stores call act old new stored.Done = Did old new (act ∷ [])
Stores call act old new stored.Failed = WhereTold old new (Recorded (StoreFailed call ∷ []))
Stores call act old new stored.Memory = new ≡ old

-- a read of an area from a place on, into this buffer
abbrev pub Reads : ℕ → ℕ → Option Told → Option Told → List ℕ → List ℕ → AreaRead → Type 0
Reads area at old new before after (read.Got n) =
    (n ≤ length before) × (new ≡ old) × IfSome old (λ told. Gives (drop at (area_at told.disk area).bytes) n before after)
Reads area at old new before after read.Failed = Did old new (StoreFailed (ReadAt area at (length before)) ∷ [])
Reads area at old new before after read.Memory = new ≡ old

abbrev pub Sends : Address → List ℕ → Option Told → Option Told → Shipped → Type 0
Sends to bytes old new shipped.Sent = Did old new (Sent to bytes ∷ [])
Sends to bytes old new shipped.Failed = Did old new (SendFailed to bytes ∷ [])
Sends to bytes old new shipped.Memory = new ≡ old

-- a receive that left this buffer
abbrev pub Receives : ℕ → List ℕ → Option Told → Option Told → Received → Type 0
Receives wait after old new (received.Datagram from len) = (len ≤ length after) × Did old new (Took wait from (take len after) ∷ [])
Receives wait after old new received.Quiet = Did old new (Quiet wait ∷ [])
Receives wait after old new received.Failed = Did old new (ReceiveFailed wait ∷ [])
Receives wait after old new received.Memory = new ≡ old
