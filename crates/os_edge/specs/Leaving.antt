-- What each call leaves of a real device: the same, or one fault more of its kind. Only beginning wants memory. A sync that failed stops
-- the store calls until the device begins anew.
use Rattle.std.specs.Prelude.{◌≡◌, true, false}
use Rattle.outside.specs.Counting.{counted}
use Rattle.outside.specs.declared.device.Begun.{Begun}
use Rattle.outside.specs.declared.device.Begun.TheVariants as begun
use Rattle.node_device.specs.declared.device.Stored.{Stored}
use Rattle.node_device.specs.declared.device.Stored.TheVariants as stored
use Rattle.node_device.specs.declared.device.AreaRead.{AreaRead}
use Rattle.node_device.specs.declared.device.AreaRead.TheVariants as read
use Rattle.node_device.specs.declared.device.Shipped.{Shipped}
use Rattle.node_device.specs.declared.device.Shipped.TheVariants as shipped
use Rattle.node_device.specs.declared.device.Received.{Received}
use Rattle.node_device.specs.declared.device.Received.TheVariants as received
use Rattle.os_edge.specs.RealViews.{RealView}

-- a device that has not begun and has no fault
abbrev pub unbegun : RealView
unbegun = record { begun = false; sync_failed = false; faults = record { begin = 0; receive = 0; store = 0; send = 0 }; wants = 0 }

abbrev pub BeginLeaves : RealView → RealView → Begun → Type 0
BeginLeaves old new begun.Ready = new ≡ record old { begun = true; sync_failed = false }
BeginLeaves old new begun.Failed = new ≡ record old { faults = record old.faults { begin = counted old.faults.begin } }
BeginLeaves old new begun.Memory = new ≡ record old { wants = counted old.wants }

abbrev pub ReceiveLeaves : RealView → RealView → Received → Type 0
ReceiveLeaves old new (received.Datagram from len) = new ≡ old
ReceiveLeaves old new received.Quiet = new ≡ old
ReceiveLeaves old new received.Failed = new ≡ record old { faults = record old.faults { receive = counted old.faults.receive } }
ReceiveLeaves old new received.Memory = ⊥

abbrev pub SendLeaves : RealView → RealView → Shipped → Type 0
SendLeaves old new shipped.Sent = new ≡ old
SendLeaves old new shipped.Failed = new ≡ record old { faults = record old.faults { send = counted old.faults.send } }
SendLeaves old new shipped.Memory = ⊥

-- a device with one store fault more
abbrev pub store_failed : RealView → RealView
store_failed old = record old { faults = record old.faults { store = counted old.faults.store } }

abbrev pub ReadLeaves : RealView → RealView → AreaRead → Type 0
ReadLeaves old new (read.Got n) = new ≡ old
ReadLeaves old new read.Failed = new ≡ store_failed old
ReadLeaves old new read.Memory = ⊥

abbrev pub StoreLeaves : RealView → RealView → Stored → Type 0
StoreLeaves old new stored.Done = new ≡ old
StoreLeaves old new stored.Failed = new ≡ store_failed old
StoreLeaves old new stored.Memory = ⊥

abbrev pub SyncLeaves : RealView → RealView → Stored → Type 0
SyncLeaves old new stored.Done = new ≡ old
SyncLeaves old new stored.Failed = new ≡ record (store_failed old) { sync_failed = true }
SyncLeaves old new stored.Memory = ⊥
