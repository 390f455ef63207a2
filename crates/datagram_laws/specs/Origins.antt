-- Of which packet or output of a node a datagram is, and what it is to those who take it.
use Rattle.std.specs.Prelude.{◌≡◌, ◌≢◌, ◌≤◌, ◌==◌, ℕ, List, [], ◌∷◌, length, Contains, Option, None, Some, slice_get, ◌⊎◌, if◌then◌else◌}
use Rattle.outside.specs.declared.device.Address.{Address}
use Rattle.handler_trait.specs.Handling.{Effect}
use Rattle.raft_types.specs.declared.client.RaftOut.{RaftOut}
use Rattle.raft_types.specs.declared.client.RaftOut.TheVariants as out
use Rattle.raft_types.specs.declared.msg.RaftMsg.{RaftMsg}
use Rattle.wire_codec.specs.Datagrams.{read_typed}
use Rattle.wire_codec.specs.Headings.{kind_byte}
use Rattle.wire_codec.specs.declared.datagram.TheConstants.{MAX_DATAGRAM}
use Rattle.wire_codec.specs.declared.heading.Heading.{Heading}
use Rattle.wire_codec.specs.declared.kind.Kind.TheVariants as kind
use Rattle.wire_fields.specs.Formats.{Format}
use Rattle.wire_messages.specs.ClientBytes.{client_reply}
use Rattle.wire_messages.specs.declared.client.Answer.{Answer}
use Rattle.wire_messages.specs.declared.client.Answer.TheVariants as answer
use Rattle.wire_messages.specs.declared.client.ClientReply.{ClientReply}
use Rattle.node_run.specs.Events.{event_of, own_heading, packet_to, reply_of, reply_to}
use Rattle.node_run.specs.Settings.{Settings}
use Rattle.node_run.specs.declared.event.Event.{Event}
use Rattle.node_run.specs.declared.event.Event.TheVariants.{Peer}

-- nodes of one cluster, which differ in their numbers and their periods alone
pub record AreOfOneCluster (settings other : Settings) : Type 0 where
  pub stack : other.stack ≡ settings.stack
  pub name : other.name ≡ settings.name
  pub peers : other.peers ≡ settings.peers
  pub clients : other.clients ≡ settings.clients

-- this datagram is what the node sends of the packet, or of the output
abbrev pub IsOfPacket : {C : Type 0} → Settings → Format C → Address × List ℕ → ℕ × RaftMsg C → Type 0
IsOfPacket settings f d p = packet_to settings f p ≡ d ∷ []

abbrev pub IsOfOutput : {O : Type 0} → Settings → Format O → Address × List ℕ → RaftOut O → Type 0
IsOfOutput settings g d o = reply_to settings g (reply_of o) ≡ d ∷ []

-- it is of one of these packets, or of one of these outputs
pub record HasPacket {C : Type 0} (settings : Settings) (f : Format C) (sends : List (ℕ × RaftMsg C)) (d : Address × List ℕ) : Type 0 where
  pub packet : ℕ × RaftMsg C
  pub one : Contains sends packet
  pub is : IsOfPacket settings f d packet

pub record HasOutput {O : Type 0} (settings : Settings) (g : Format O) (outputs : List (RaftOut O)) (d : Address × List ℕ) : Type 0 where
  pub output : RaftOut O
  pub one : Contains outputs output
  pub is : IsOfOutput settings g d output

abbrev pub HasOrigin : {S C O : Type 0} → Settings → Format C → Format O → Effect S (RaftOut O) (RaftMsg C) → Address × List ℕ → Type 0
HasOrigin settings f g effect d = HasPacket settings f effect.sends d ⊎ HasOutput settings g effect.outputs d

-- The event is the message of this packet of the node, to just the node that takes it, which is another one of the same cluster, and it
-- came from the address that this one has for the sender.
pub record IsTakenAs {C : Type 0} (settings other : Settings) (from : Address) (event : Event C) (p : ℕ × RaftMsg C) : Type 0 where
  pub is : event ≡ Peer settings.me p.1
  pub to : other.me ≡ p.0
  pub stack : other.stack ≡ settings.stack
  pub name : other.name ≡ settings.name
  pub another : settings.me ≢ other.me
  pub address : slice_get other.peers settings.me ≡ Some from

-- the same of one of these packets
pub record WasSentTo {C : Type 0} (settings other : Settings) (sends : List (ℕ × RaftMsg C)) (from : Address) (event : Event C)
    : Type 0 where
  pub packet : ℕ × RaftMsg C
  pub sent : Contains sends packet
  pub taken : IsTakenAs settings other from event packet

-- what a client is told by a reply
abbrev pub output_by : {O : Type 0} → ℕ → ℕ → Answer O → RaftOut O
output_by client request (answer.Reply output) = out.Reply client request output
output_by client request answer.NotLeader = out.NotLeader client request
output_by client request answer.Full = out.Full client request

abbrev pub output_in : {O : Type 0} → Option (Heading × ClientReply O) → Option (Heading × RaftOut O)
output_in None = None
output_in (Some p) = if kind_byte p.0.kind == kind_byte kind.Reply then Some (p.0, output_by p.0.to p.1.request p.1.answer) else None

-- the output that a datagram is to its client, under the heading that says from which node it comes; other datagrams are none
abbrev pub read_output : {O : Type 0} → Format O → List ℕ → Option (Heading × RaftOut O)
read_output g bytes = output_in (read_typed (client_reply g) bytes)

-- The datagram goes to the address of the node that the packet is to. That node takes just its message from it, as one of the sender,
-- where it comes from the sender's address. To clients it is no reply.
pub record IsHeard {C O : Type 0} (f : Format C) (g : Format O) (settings : Settings) (d : Address × List ℕ) (p : ℕ × RaftMsg C)
    : Type 0 where
  pub address : slice_get settings.peers p.0 ≡ Some d.0
  pub size : length d.1 ≤ MAX_DATAGRAM
  pub event : (other : Settings) (from : Address) → AreOfOneCluster settings other → other.me ≡ p.0 → settings.me ≢ p.0 →
      slice_get settings.peers settings.me ≡ Some from → event_of other f from d.1 ≡ Some (Peer settings.me p.1)
  pub no_reply : read_output g d.1 ≡ None

-- The datagram goes to the address of the client's slot, and reads as just this output.
pub record IsRead {O : Type 0} (g : Format O) (settings : Settings) (d : Address × List ℕ) (o : RaftOut O) : Type 0 where
  pub address : slice_get settings.clients (reply_of o).0 ≡ Some d.0
  pub size : length d.1 ≤ MAX_DATAGRAM
  pub output : read_output g d.1 ≡ Some (own_heading settings kind.Reply (reply_of o).0, o)

-- nodes of this number, of one stack and one name, both said this
pub record HaveSaidTheSame {A : Type 0} (settings other : Settings) (said also : A) : Type 0 where
  pub me : settings.me ≡ other.me
  pub stack : settings.stack ≡ other.stack
  pub name : settings.name ≡ other.name
  pub same : said ≡ also
