-- The count of wants, and what each call does to it: a call that answers want of memory raises it, and any other leaves it.
use Rattle.std.specs.Prelude.{◌≡◌, ℕ, Bool, true, false}
use Rattle.outside.specs.Counting.{Rose}
use Rattle.outside.specs.declared.device.Begun.{Begun}
use Rattle.outside.specs.declared.device.Begun.TheVariants as begun
use Rattle.node_device.specs.declared.device.Stored.{Stored}
use Rattle.node_device.specs.declared.device.Stored.TheVariants as stored
use Rattle.node_device.specs.declared.device.AreaRead.{AreaRead}
use Rattle.node_device.specs.declared.device.AreaRead.TheVariants as read
use Rattle.node_device.specs.declared.device.Shipped.{Shipped}
use Rattle.node_device.specs.declared.device.Shipped.TheVariants as shipped
use Rattle.node_device.specs.declared.device.Received.{Received}
use Rattle.node_device.specs.declared.device.Received.TheVariants as received

abbrev pub Wants : Bool → ℕ → ℕ → Type 0
Wants true old new = Rose old new
Wants false old new = new ≡ old

-- whether an answer is want of memory

abbrev pub begin_wants : Begun → Bool
begin_wants begun.Ready = false
begin_wants begun.Failed = false
begin_wants begun.Memory = true

abbrev pub receive_wants : Received → Bool
receive_wants (received.Datagram from len) = false
receive_wants received.Quiet = false
receive_wants received.Failed = false
receive_wants received.Memory = true

abbrev pub send_wants : Shipped → Bool
send_wants shipped.Sent = false
send_wants shipped.Failed = false
send_wants shipped.Memory = true

abbrev pub read_wants : AreaRead → Bool
read_wants (read.Got n) = false
read_wants read.Failed = false
read_wants read.Memory = true

abbrev pub store_wants : Stored → Bool
store_wants stored.Done = false
store_wants stored.Failed = false
store_wants stored.Memory = true
