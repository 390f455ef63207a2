-- What is said is heard, and what is heard was said: of the bytes of nodes' datagrams, whatever the machine.
use Rattle.std.specs.Prelude.{◌≡◌, ◌≢◌, ◌<◌, ℕ, List, length, Contains, None, Some}
use Rattle.handler_trait.specs.Handling.{Effect}
use Rattle.lists.specs.Each.{Each}
use Rattle.node_body.specs.Bodies.{VoteAmong}
use Rattle.node_run.specs.Events.{event_of, reply_of, said_by}
use Rattle.node_run.specs.Runs.{effect_of}
use Rattle.node_run.specs.Saying.{HasFewBytes, MaySay}
use Rattle.node_run.specs.Settings.{Settings}
use Rattle.node_run.specs.declared.event.Event.{Event}
use Rattle.node_run.specs.declared.event.Event.TheVariants.{Asked, Peer, Tick}
use Rattle.outside.specs.declared.device.Address.{Address}
use Rattle.raft_types.specs.Messages.{KeptView, IsIndex, IsTerm}
use Rattle.raft_types.specs.declared.client.RaftOut.{RaftOut}
use Rattle.raft_types.specs.declared.msg.RaftMsg.{RaftMsg}
use Rattle.raft_xform.specs.Nodes.{RaftEffect, RaftView}
use Rattle.raft_xform.specs.Raft.{raft_recovery}
use Rattle.raft_xform.specs.Sound.{IsSoundNode}
use Rattle.vst_base.specs.Machines.{MachineMeaning}
use Rattle.wire_fields.specs.Formats.{Format}
use Rattle.wire_messages.specs.ClientBytes.{client_reply}
use Rattle.wire_messages.specs.RaftBytes.{raft_message}
use Rattle.wired.specs.RaftSaving.{IsAsked}
use Rattle.wired.specs.RaftSending.{LogFits}
use Rattle.datagram_laws.specs.Origins.{HasOrigin, HaveSaidTheSame, IsHeard, IsOfOutput, IsOfPacket, IsRead, IsTakenAs, WasSentTo}

module _ {C O : Type 0} (f : Format C) (g : Format O) where
  -- each datagram that an event makes is of one of its packets or of one of its outputs
  abbrev pub EachHasOrigin : Type 0 → Type 0
  EachHasOrigin S =
      (settings : Settings) (effect : Effect S (RaftOut O) (RaftMsg C)) → Each (HasOrigin settings f g effect) (said_by settings f g effect)

  -- the datagram of a packet is taken as just its message, and as no reply
  abbrev pub PacketsAreHeard : Type 0
  PacketsAreHeard =
      (settings : Settings) (p : ℕ × RaftMsg C) (d : Address × List ℕ) → MaySay f g settings → HasFewBytes (raft_message f) p.1 →
      IsOfPacket settings f d p → IsHeard f g settings d p

  -- the datagram of an output is read as just this output
  abbrev pub OutputsAreRead : Type 0
  OutputsAreRead =
      (settings : Settings) (o : RaftOut O) (d : Address × List ℕ) → MaySay f g settings → HasFewBytes (client_reply g) (reply_of o).1 →
      IsOfOutput settings g d o → IsRead g settings d o

  -- What any node takes as an event of the datagram of a packet is that packet,
  abbrev pub PacketsAreTakenAsSent : Type 0
  PacketsAreTakenAsSent =
      (settings other : Settings) (p : ℕ × RaftMsg C) (d : Address × List ℕ) (from : Address) (event : Event C) → MaySay f g settings →
      HasFewBytes (raft_message f) p.1 → IsOfPacket settings f d p → event_of other f from d.1 ≡ Some event →
      IsTakenAs settings other from event p

  -- and that of an output is no event, wherever it comes from, and whatever bytes it has.
  abbrev pub OutputsAreNoEvents : Type 0
  OutputsAreNoEvents =
      (settings other : Settings) (o : RaftOut O) (d : Address × List ℕ) (from : Address) → MaySay f g settings →
      IsOfOutput settings g d o → event_of other f from d.1 ≡ None

  -- What a node takes as an event, of which a node said the bytes, to whomever, was sent to it by that node: it is no request, it is no
  -- message of another node, and it came from the sender's address.
  abbrev pub WhatIsHeardWasSaid : Type 0 → Type 0
  WhatIsHeardWasSaid S =
      (settings other : Settings) (effect : Effect S (RaftOut O) (RaftMsg C)) (d : Address × List ℕ) (from : Address) (event : Event C) →
      MaySay f g settings → Each (λ p. HasFewBytes (raft_message f) p.1) effect.sends → Contains (said_by settings f g effect) d →
      event_of other f from d.1 ≡ Some event → WasSentTo settings other effect.sends from event

  -- No bytes are those of two packets, or of two outputs, be they of one node or of two.
  abbrev pub BytesAreOfOnePacket : Type 0
  BytesAreOfOnePacket =
      (settings other : Settings) (p q : ℕ × RaftMsg C) (d e : Address × List ℕ) → MaySay f g settings → MaySay f g other →
      HasFewBytes (raft_message f) p.1 → HasFewBytes (raft_message f) q.1 → IsOfPacket settings f d p → IsOfPacket other f e q →
      d.1 ≡ e.1 → HaveSaidTheSame settings other p q

  abbrev pub BytesAreOfOneOutput : Type 0
  BytesAreOfOneOutput =
      (settings other : Settings) (o u : RaftOut O) (d e : Address × List ℕ) → MaySay f g settings → MaySay f g other →
      HasFewBytes (client_reply g) (reply_of o).1 → HasFewBytes (client_reply g) (reply_of u).1 → IsOfOutput settings g d o →
      IsOfOutput other g e u → d.1 ≡ e.1 → HaveSaidTheSame settings other o u

-- a message comes from another node of the cluster and has bytes, and a request has bytes
abbrev pub HasEventBytes : {C : Type 0} → Format C → Settings → Event C → Type 0
HasEventBytes f settings Tick = Unit {0}
HasEventBytes f settings (Peer from message) = ((from < length settings.peers) × (settings.me ≢ from)) × (raft_message f).Fits message
HasEventBytes f settings (Asked request) = IsAsked f request

-- what a node keeps is in range, and its log has bytes
pub record IsKeptInBytes {C : Type 0} (f : Format C) (settings : Settings) (kept : KeptView C) : Type 0 where
  pub term : IsTerm kept.term
  pub vote : VoteAmong (length settings.peers) kept.voted
  pub length : IsIndex (length kept.log)
  pub log : LogFits f kept.log

-- a sound node of the settings, whose log has bytes
pub record IsInBytes {S C O : Type 0} (f : Format C) (settings : Settings) (s : RaftView S C O) : Type 0 where
  pub sound : IsSoundNode (length settings.peers) settings.me s
  pub log : LogFits f s.log

-- an effect whose state is so, and whose packets have bytes, and few, and go to other nodes
pub record StaysInBytes {S C O : Type 0} (f : Format C) (settings : Settings) (effect : RaftEffect S C O) : Type 0 where
  pub state : IsInBytes f settings effect.state
  pub packets : Each (λ p. HasFewBytes (raft_message f) p.1) effect.sends
  pub others : Each (λ p. settings.me ≢ p.0) effect.sends

-- a datagram that is an event has such bytes
abbrev pub EventsHaveBytes : {C : Type 0} → Format C → Type 0
EventsHaveBytes {C} f =
    (settings : Settings) (from : Address) (bytes : List ℕ) (event : Event C) → event_of settings f from bytes ≡ Some event →
    HasEventBytes f settings event

-- a node starts so from what it kept,
abbrev pub NodesStartInBytes : {C O : Type 0} → Type 0 → Format C → Format O → Type 0
NodesStartInBytes {C} {O} S f g =
    (settings : Settings) (m : MachineMeaning S C O) (kept : KeptView C) → MaySay f g settings → IsKeptInBytes f settings kept →
    IsInBytes f settings ((raft_recovery m).reboot settings.me kept)

-- stays so by each such event,
abbrev pub NodesStayInBytes : {C O : Type 0} → Type 0 → Format C → Format O → Type 0
NodesStayInBytes {C} {O} S f g =
    (settings : Settings) (m : MachineMeaning S C O) (s : RaftView S C O) (event : Event C) → IsInBytes f settings s →
    HasEventBytes f settings event → StaysInBytes f settings (effect_of settings m f g s event)

-- and keeps what it may start from.
abbrev pub NodesKeepBytes : {C : Type 0} → Type 0 → Type 0 → Format C → Type 0
NodesKeepBytes {C} S O f =
    (settings : Settings) (m : MachineMeaning S C O) (s : RaftView S C O) → IsInBytes f settings s →
    IsKeptInBytes f settings ((raft_recovery m).keep s)
