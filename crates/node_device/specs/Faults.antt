-- Counts of faults, and what each call does to them.
use Rattle.std.specs.Prelude.{◌≡◌, ℕ, ◌≤◌}
use Rattle.outside.specs.Counting.{Rose}
use Rattle.outside.specs.declared.device.Begun.{Begun}
use Rattle.outside.specs.declared.device.Begun.TheVariants as begun
use Rattle.node_device.specs.declared.device.Stored.{Stored}
use Rattle.node_device.specs.declared.device.Stored.TheVariants as stored
use Rattle.node_device.specs.declared.device.AreaRead.{AreaRead}
use Rattle.node_device.specs.declared.device.AreaRead.TheVariants as read
use Rattle.node_device.specs.declared.device.Shipped.{Shipped}
use Rattle.node_device.specs.declared.device.Shipped.TheVariants as shipped
use Rattle.node_device.specs.declared.device.Received.{Received}
use Rattle.node_device.specs.declared.device.Received.TheVariants as received

-- how often calls of each kind have failed
pub record Faults : Type 0 where
  pub begin : ℕ
  pub receive : ℕ
  pub store : ℕ
  pub send : ℕ

pub record NoFewer (old new : Faults) : Type 0 where
  pub begin : old.begin ≤ new.begin
  pub receive : old.receive ≤ new.receive
  pub store : old.store ≤ new.store
  pub send : old.send ≤ new.send

-- A call that failed raises the count of its kind and leaves the others. Any other call leaves every count.

abbrev pub BeginCounts : Faults → Faults → Begun → Type 0
BeginCounts old new begun.Ready = new ≡ old
BeginCounts old new begun.Failed = Rose old.begin new.begin × (new ≡ record old { begin = new.begin })
BeginCounts old new begun.Memory = new ≡ old

abbrev pub ReceiveCounts : Faults → Faults → Received → Type 0
ReceiveCounts old new (received.Datagram from len) = new ≡ old
ReceiveCounts old new received.Quiet = new ≡ old
ReceiveCounts old new received.Failed = Rose old.receive new.receive × (new ≡ record old { receive = new.receive })
ReceiveCounts old new received.Memory = new ≡ old

abbrev pub SendCounts : Faults → Faults → Shipped → Type 0
SendCounts old new shipped.Sent = new ≡ old
SendCounts old new shipped.Failed = Rose old.send new.send × (new ≡ record old { send = new.send })
SendCounts old new shipped.Memory = new ≡ old

-- a store fault was counted, and nothing else
abbrev pub CountsStore : Faults → Faults → Type 0
CountsStore old new = Rose old.store new.store × (new ≡ record old { store = new.store })

abbrev pub ReadCounts : Faults → Faults → AreaRead → Type 0
ReadCounts old new (read.Got n) = new ≡ old
ReadCounts old new read.Failed = CountsStore old new
ReadCounts old new read.Memory = new ≡ old

abbrev pub StoreCounts : Faults → Faults → Stored → Type 0
StoreCounts old new stored.Done = new ≡ old
StoreCounts old new stored.Failed = CountsStore old new
StoreCounts old new stored.Memory = new ≡ old
