-- What a node says is in the grammar, and the one that it is said to reads just that.
use Rattle.std.specs.Prelude.{◌≡◌, ◌≢◌, ◌<◌, ◌≤◌, ℕ, List, length, true, Some, slice_get, ◌⊎◌}
use Rattle.handler_trait.specs.Handling.{Effect}
use Rattle.lists.specs.Each.{Each}
use Rattle.outside.specs.declared.device.Address.{Address}
use Rattle.raft_types.specs.declared.client.RaftOut.{RaftOut}
use Rattle.raft_types.specs.declared.msg.RaftMsg.{RaftMsg}
use Rattle.vst_base.specs.declared.node.TheConstants.{MAX_NODES}
use Rattle.wire_codec.specs.Bodies.{AreMessagesOf}
use Rattle.wire_codec.specs.Datagrams.{AreBytesOf, longest_message, read_typed}
use Rattle.wire_codec.specs.Headings.{has_clients}
use Rattle.wire_codec.specs.declared.kind.Kind.{Kind}
use Rattle.wire_codec.specs.declared.kind.Kind.TheVariants as kind
use Rattle.wire_fields.specs.Fields.{name}
use Rattle.wire_fields.specs.Formats.{Format}
use Rattle.wire_messages.specs.ClientBytes.{client_reply}
use Rattle.wire_messages.specs.RaftBytes.{raft_message}
use Rattle.wire_messages.specs.declared.client.ClientReply.{ClientReply}
use Rattle.node_run.specs.Events.{event_of, is_at, own_heading, packet_to, reply_of, reply_to}
use Rattle.node_run.specs.Settings.{Settings}
use Rattle.node_run.specs.declared.event.Event.TheVariants.{Peer}

-- A node whose headings are in range: of a stack that has clients, and such packets and such replies; one of at most nine, with at most
-- 255 slots of clients, in a cluster whose name has 16 bytes.
pub record MaySay {C O : Type 0} (f : Format C) (g : Format O) (settings : Settings) : Type 0 where
  pub packets : AreMessagesOf settings.stack kind.Peer (raft_message f)
  pub replies : AreMessagesOf settings.stack kind.Reply (client_reply g)
  pub stack : has_clients settings.stack ≡ true
  pub me : settings.me < length settings.peers
  pub peers : length settings.peers ≤ MAX_NODES
  pub clients : length settings.clients ≤ 255
  pub named : name.Fits settings.name

-- a message that has bytes, and no more than stand behind a heading
abbrev pub HasFewBytes : {M : Type 0} → Format M → M → Type 0
HasFewBytes f message = f.Fits message × (length (f.spell message) ≤ longest_message)

-- another node of the same cluster, of this number
pub record IsOtherNode (settings other : Settings) (n : ℕ) : Type 0 where
  pub stack : other.stack ≡ settings.stack
  pub name : other.name ≡ settings.name
  pub me : other.me ≡ n
  pub another : settings.me ≢ n

module _ {C : Type 0} (f : Format C) (settings : Settings) where
  -- What is sent of a packet, which is nothing or one datagram, is its message's, and the node that it is sent to takes just this message
  -- from it where it comes from the address of the sender.
  pub record PacketIsHeard (p : ℕ × RaftMsg C) : Type 0 where
    pub datagram : Each (λ d. AreBytesOf (raft_message f) (own_heading settings kind.Peer p.0) p.1 d.1) (packet_to settings f p)
    pub heard : (other : Settings) (from : Address) → IsOtherNode settings other p.0 → is_at (slice_get other.peers settings.me) from ≡ true
        → Each (λ d. event_of other f from d.1 ≡ Some (Peer settings.me p.1)) (packet_to settings f p)

-- what a client is told is the reply's, and reads as it
pub record ReplyIsRead {O : Type 0} (g : Format O) (settings : Settings) (r : ℕ × ClientReply O) : Type 0 where
  pub datagram : Each (λ d. AreBytesOf (client_reply g) (own_heading settings kind.Reply r.0) r.1 d.1) (reply_to settings g r)
  pub read : Each (λ d. read_typed (client_reply g) d.1 ≡ Some (own_heading settings kind.Reply r.0, r.1)) (reply_to settings g r)

-- these bytes are the datagram of this node, of this kind, of a message to one
pub record IsDatagramOf {M : Type 0} (f : Format M) (settings : Settings) (k : Kind) (bytes : List ℕ) : Type 0 where
  pub to : ℕ
  pub message : M
  pub are : AreBytesOf f (own_heading settings k to) message bytes

-- a datagram of this node in the grammar: a packet or a reply
abbrev pub IsInGrammar : {C O : Type 0} → Format C → Format O → Settings → Address × List ℕ → Type 0
IsInGrammar f g settings d = IsDatagramOf (raft_message f) settings kind.Peer d.1 ⊎ IsDatagramOf (client_reply g) settings kind.Reply d.1

-- all that an effect sends and tells has bytes, and few
pub record SaysFewBytes {S C O : Type 0} (f : Format C) (g : Format O) (effect : Effect S (RaftOut O) (RaftMsg C)) : Type 0 where
  pub packets : Each (λ p. HasFewBytes (raft_message f) p.1) effect.sends
  pub replies : Each (λ o. HasFewBytes (client_reply g) (reply_of o).1) effect.outputs
