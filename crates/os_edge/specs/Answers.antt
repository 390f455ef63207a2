-- What the socket and the files answer. None of them wants memory.
use Rattle.std.specs.Prelude.{ℕ, ◌≤◌, List, length}
use Rattle.node_device.specs.declared.device.Stored.{Stored}
use Rattle.node_device.specs.declared.device.Stored.TheVariants as stored
use Rattle.node_device.specs.declared.device.AreaRead.{AreaRead}
use Rattle.node_device.specs.declared.device.AreaRead.TheVariants as read
use Rattle.node_device.specs.declared.device.Shipped.{Shipped}
use Rattle.node_device.specs.declared.device.Shipped.TheVariants as shipped
use Rattle.node_device.specs.declared.device.Received.{Received}
use Rattle.node_device.specs.declared.device.Received.TheVariants as received

-- a datagram that came fits into this buffer
abbrev pub ReceivesInto : List ℕ → Received → Type 0
ReceivesInto buf (received.Datagram from len) = len ≤ length buf
ReceivesInto buf received.Quiet = Unit {0}
ReceivesInto buf received.Failed = Unit {0}
ReceivesInto buf received.Memory = ⊥

abbrev pub SendsOrFails : Shipped → Type 0
SendsOrFails shipped.Sent = Unit {0}
SendsOrFails shipped.Failed = Unit {0}
SendsOrFails shipped.Memory = ⊥

-- what was read fits into this buffer
abbrev pub ReadsInto : List ℕ → AreaRead → Type 0
ReadsInto buf (read.Got n) = n ≤ length buf
ReadsInto buf read.Failed = Unit {0}
ReadsInto buf read.Memory = ⊥

abbrev pub StoresOrFails : Stored → Type 0
StoresOrFails stored.Done = Unit {0}
StoresOrFails stored.Failed = Unit {0}
StoresOrFails stored.Memory = ⊥
