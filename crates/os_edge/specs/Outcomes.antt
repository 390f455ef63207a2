-- What each call comes to, by what the system answered.
use Rattle.std.specs.Prelude.{ℕ, ◌==◌, if◌then◌else◌, Option, None, Some, Result, Ok, Err}
use Rattle.std.specs.IoError.{error_kind}
use Rattle.std.specs.Net.Addr.{ipv4_octets}
use Rattle.std.specs.Net.Socket.{v4_ip, v4_port}
use Rattle.std.specs.declared.io.Error.{Error}
use Rattle.std.specs.declared.io.ErrorKind.{ErrorKind}
use Rattle.std.specs.declared.io.ErrorKind.TheVariants.{WouldBlock, TimedOut, Interrupted}
use Rattle.std.specs.declared.net.socket_addr.SocketAddr.{SocketAddr}
use Rattle.std.specs.declared.net.socket_addr.SocketAddr.TheVariants.{V4, V6}
use Rattle.node_device.specs.declared.device.Stored.{Stored}
use Rattle.node_device.specs.declared.device.Stored.TheVariants as stored
use Rattle.node_device.specs.declared.device.AreaRead.{AreaRead}
use Rattle.node_device.specs.declared.device.AreaRead.TheVariants as read
use Rattle.node_device.specs.declared.device.Shipped.{Shipped}
use Rattle.node_device.specs.declared.device.Shipped.TheVariants as shipped
use Rattle.node_device.specs.declared.device.Received.{Received}
use Rattle.node_device.specs.declared.device.Received.TheVariants as received
use Rattle.outside.specs.declared.device.Begun.{Begun}
use Rattle.outside.specs.declared.device.Begun.TheVariants as begun

abbrev pub begin_outcome : {T : Type 0} → Result T Error → Begun
begin_outcome (Ok opened) = begun.Ready
begin_outcome (Err fault) = begun.Failed

-- an error of this kind: no datagram came in time, or a signal came first; any other is a fault
abbrev pub fault_outcome : ErrorKind → Received
fault_outcome WouldBlock = received.Quiet
fault_outcome TimedOut = received.Quiet
fault_outcome Interrupted = received.Quiet
fault_outcome kind = received.Failed

-- a datagram has an IPv4 address
abbrev pub datagram_outcome : ℕ → SocketAddr → Received
datagram_outcome len (V4 from) = received.Datagram (record { ip = ipv4_octets (v4_ip from); port = v4_port from }) len
datagram_outcome len (V6 from) = received.Failed

abbrev pub receive_outcome : Result (ℕ × SocketAddr) Error → Received
receive_outcome (Ok taken) = datagram_outcome taken.0 taken.1
receive_outcome (Err fault) = fault_outcome (error_kind fault)

-- a datagram of so many bytes went out only whole
abbrev pub send_outcome : ℕ → Result ℕ Error → Shipped
send_outcome len (Ok n) = if n == len then shipped.Sent else shipped.Failed
send_outcome len (Err fault) = shipped.Failed

-- a read that a signal came before is made again
abbrev pub read_fault : ErrorKind → Option AreaRead
read_fault Interrupted = None
read_fault kind = Some read.Failed

abbrev pub read_outcome : Result ℕ Error → Option AreaRead
read_outcome (Ok n) = Some (read.Got n)
read_outcome (Err fault) = read_fault (error_kind fault)

abbrev pub store_outcome : {T : Type 0} → Result T Error → Stored
store_outcome (Ok done) = stored.Done
store_outcome (Err fault) = stored.Failed
