-- Which datagrams are events of a node, and which datagrams an event sends.
use Rattle.std.specs.Option.{option_or}
use Rattle.std.specs.Prelude.{ℕ, ◌==◌, Bool, false, ◌&&◌, not, List, [], ◌∷◌, ◌++◌, Option, Some, None, bytes_eq, slice_get, if◌then◌else◌}
use Rattle.outside.specs.declared.device.Address.{Address}
use Rattle.handler_trait.specs.Handling.{Effect}
use Rattle.raft_types.specs.declared.client.RaftOut.{RaftOut}
use Rattle.raft_types.specs.declared.client.RaftOut.TheVariants as out
use Rattle.raft_types.specs.declared.msg.RaftMsg.{RaftMsg}
use Rattle.wire_codec.specs.Datagrams.{read_typed, spell_datagram}
use Rattle.wire_codec.specs.Headings.{heading_of, kind_byte, stack_byte}
use Rattle.wire_codec.specs.declared.heading.Heading.{Heading}
use Rattle.wire_codec.specs.declared.kind.Kind.{Kind}
use Rattle.wire_codec.specs.declared.kind.Kind.TheVariants as kind
use Rattle.wire_fields.specs.Formats.{Format}
use Rattle.wire_messages.specs.ClientBytes.{client_reply, client_request}
use Rattle.wire_messages.specs.RaftBytes.{raft_message}
use Rattle.wire_messages.specs.declared.client.Answer.TheVariants as answer
use Rattle.wire_messages.specs.declared.client.ClientReply.{ClientReply}
use Rattle.wire_messages.specs.declared.client.ClientRequest.{ClientRequest}
use Rattle.node_run.specs.Settings.{Settings}
use Rattle.node_run.specs.declared.event.Event.{Event}
use Rattle.node_run.specs.declared.event.Event.TheVariants.{Peer, Asked}

abbrev pub same_address : Address → Address → Bool
same_address a b = bytes_eq a.ip b.ip && a.port == b.port

-- this is the address of the number in the list
abbrev pub is_at : Option Address → Address → Bool
is_at None from = false
is_at (Some address) from = same_address address from

-- It is of this kind, of the node's stack and cluster, and for the node.
abbrev pub is_for : Settings → Kind → Heading → Bool
is_for settings k h =
    ((kind_byte h.kind == kind_byte k && stack_byte h.stack == stack_byte settings.stack) && h.to == settings.me) && bytes_eq h.name settings.name

-- a message of another node, from that node's address
abbrev pub peer_event : {C : Type 0} → Settings → Address → Option (Heading × RaftMsg C) → Option (Event C)
peer_event settings from None = None
peer_event settings from (Some p) =
    if is_for settings kind.Peer p.0 && (not (p.0.from == settings.me) && is_at (slice_get settings.peers p.0.from) from)
    then Some (Peer p.0.from p.1) else None

-- A request from the address of a client's slot. The client is known to the cluster by the number of the slot.
abbrev pub request_event : {C : Type 0} → Settings → Address → Option (Heading × ClientRequest C) → Option (Event C)
request_event settings from None = None
request_event settings from (Some p) =
    if is_for settings kind.Request p.0 && is_at (slice_get settings.clients p.0.from) from
    then Some (Asked (record { client = p.0.from; request = p.1.request; cmd = p.1.cmd })) else None

-- The event that a datagram is: a message of another node, or a request of a client. Any other datagram is none.
abbrev pub event_of : {C : Type 0} → Settings → Format C → Address → List ℕ → Option (Event C)
event_of settings f from bytes =
    option_or (peer_event settings from (read_typed (raft_message f) bytes)) (request_event settings from (read_typed (client_request f) bytes))

-- what stands before the node's datagrams, of this kind and to this one
abbrev pub own_heading : Settings → Kind → ℕ → Heading
own_heading settings k to = heading_of settings.stack k settings.me to settings.name

-- the datagram of a message to the address of this number, and none where it has no address
abbrev pub datagram_to : {M : Type 0} → Settings → Format M → Option Address → Kind → ℕ → M → List (Address × List ℕ)
datagram_to settings f None k to message = []
datagram_to settings f (Some address) k to message = (address, spell_datagram f (own_heading settings k to) message) ∷ []

-- a packet to a node
abbrev pub packet_to : {C : Type 0} → Settings → Format C → ℕ × RaftMsg C → List (Address × List ℕ)
packet_to settings f p = datagram_to settings (raft_message f) (slice_get settings.peers p.0) kind.Peer p.0 p.1

abbrev pub sent : {C : Type 0} → Settings → Format C → List (ℕ × RaftMsg C) → List (Address × List ℕ)
sent settings f [] = []
sent settings f (p ∷ sends) = packet_to settings f p ++ sent settings f sends

abbrev pub reply_of : {O : Type 0} → RaftOut O → ℕ × ClientReply O
reply_of (out.Reply client request output) = (client, record { request = request; answer = answer.Reply output })
reply_of (out.NotLeader client request) = (client, record { request = request; answer = answer.NotLeader })
reply_of (out.Full client request) = (client, record { request = request; answer = answer.Full })

abbrev pub reply_to : {O : Type 0} → Settings → Format O → ℕ × ClientReply O → List (Address × List ℕ)
reply_to settings f r = datagram_to settings (client_reply f) (slice_get settings.clients r.0) kind.Reply r.0 r.1

-- a client without a slot is told nothing
abbrev pub replied : {O : Type 0} → Settings → Format O → List (RaftOut O) → List (Address × List ℕ)
replied settings f [] = []
replied settings f (o ∷ outputs) = reply_to settings f (reply_of o) ++ replied settings f outputs

-- the packets first, and then the outputs, each in order
abbrev pub said_by : {S C O : Type 0} → Settings → Format C → Format O → Effect S (RaftOut O) (RaftMsg C) → List (Address × List ℕ)
said_by settings f g effect = sent settings f effect.sends ++ replied settings g effect.outputs
