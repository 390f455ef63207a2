-- What is heard of a node's datagrams.
use Rattle.std.proofs.Common.{◌≡◌, ◌≢◌, ◌==◌, ◌&&◌, not, ℕ, Bool, true, false, List, ◌++◌, bytes_eq, Option, None, Some, option_map, slice_get, if◌then◌else◌, refl, sym, ap, ◌∙◌, inl, inr}
use Rattle.std.specs.Option.{option_or}
use Rattle.std.specs.Prelude.{Contains}
use Rattle.std.proofs.lemmas.Bool.{and_parts, eq-eqb, eqb-true, false≢true, ne_eqb}
use Rattle.std.proofs.lemmas.Option.{none-some, same_Some}
use Rattle.std.proofs.lemmas.Slice.Eq.{bytes_eq-Decides}
use Rattle.handler_trait.specs.Handling.{Effect}
use Rattle.outside.specs.declared.device.Address.{Address}
use Rattle.raft_types.specs.declared.client.RaftOut.{RaftOut}
use Rattle.raft_types.specs.declared.msg.RaftMsg.{RaftMsg}
use Rattle.vst_base.specs.declared.stack.StackId.{StackId}
use Rattle.vst_base.specs.declared.stack.StackId.TheVariants as stack
use Rattle.wire_codec.specs.DatagramLaws.{typed_back}
use Rattle.wire_codec.specs.Datagrams.{AreBytesOf, read_typed}
use Rattle.wire_codec.specs.Headings.{has_clients, heading, stack_byte}
use Rattle.wire_codec.specs.declared.kind.Kind.TheVariants as kind
use Rattle.wire_fields.specs.Formats.{Format, IsFormat}
use Rattle.wire_messages.specs.ClientBytes.{client_reply, client_request}
use Rattle.wire_messages.specs.RaftByteLaws.{raft_message_is_format}
use Rattle.wire_messages.specs.RaftBytes.{raft_message}
use Rattle.wire_messages.specs.declared.client.ClientRequest.{ClientRequest}
use Rattle.node_run.specs.Events.{event_of, is_at, is_for, own_heading, peer_event, reply_of, request_event, same_address}
use Rattle.node_run.specs.Saying.{HasFewBytes, MaySay}
use Rattle.node_run.specs.Settings.{Settings}
use Rattle.node_run.specs.declared.event.Event.{Event}
use Rattle.node_run.specs.declared.event.Event.TheVariants.{Peer}
use Rattle.datagram_laws.proofs.Headings.{heading_to_client, made_of, packet_bytes, under}
use Rattle.datagram_laws.specs.Origins.{AreOfOneCluster, HasOrigin, IsOfOutput, IsOfPacket, IsTakenAs, WasSentTo}

-- the stacks of nodes with clients have their own bytes
one_stack : (s other : StackId) → has_clients s ≡ true → stack_byte s ≡ stack_byte other → other ≡ s
one_stack stack.KvRaft stack.KvRaft has e = refl
one_stack stack.TableRaft stack.TableRaft has e = refl
one_stack _ _ has e = cc

pub at_its_own : (a : Address) → same_address a a ≡ true
at_its_own a = rw ((bytes_eq-Decides a.ip a.ip).1 refl, eq-eqb a.port a.port refl) refl

is_the_address : (a from : Address) → same_address a from ≡ true → a ≡ from
is_the_address a from e =
    let both = and_parts (bytes_eq a.ip from.ip) (a.port == from.port) e in
    let ip : a.ip ≡ from.ip = (bytes_eq-Decides a.ip from.ip).0 both.0 in
    let port : a.port ≡ from.port = eqb-true a.port from.port both.1 in
    ap (λ ip. let b : Address = record { ip = ip; port = a.port } in b) ip ∙ ap
    (λ port. let b : Address = record { ip = from.ip; port = port } in b) port

is_there : (o : Option Address) (from : Address) → is_at o from ≡ true → o ≡ Some from
is_there None from e = absurd (false≢true e)
is_there (Some a) from e = ap (λ a. Some a) (is_the_address a from e)

or_none : {A : Type 0} (o : Option A) → option_or o None ≡ o
or_none None = refl
or_none (Some a) = refl

module _ {C : Type 0} (settings : Settings) (to : ℕ) (other : Settings) (from : Address) where
  -- a packet is no request, and a reply is nothing
  packet_no_request : (o : Option (ClientRequest C))
      → request_event other from (option_map (λ m. (own_heading settings kind.Peer to, m)) o) ≡ None
  packet_no_request None = refl
  packet_no_request (Some r) = refl

  reply_no_request : (o : Option (ClientRequest C))
      → request_event other from (option_map (λ m. (own_heading settings kind.Reply to, m)) o) ≡ None
  reply_no_request None = refl
  reply_no_request (Some r) = refl

  reply_no_message : (o : Option (RaftMsg C)) → peer_event other from (option_map (λ m. (own_heading settings kind.Reply to, m)) o) ≡ None
  reply_no_message None = refl
  reply_no_message (Some r) = refl

-- whether a node takes what is under this heading
abbrev takes : Settings → Settings → ℕ → Address → Bool
takes settings other to from =
    is_for other kind.Peer (own_heading settings kind.Peer to) && (not (settings.me == other.me) && is_at
    (slice_get other.peers settings.me) from)

module _ {C : Type 0} (f : Format C) (is_f : IsFormat f) (settings other : Settings) (from : Address) (bytes : List ℕ) where
  -- the event that a packet's bytes are, if any
  pub packet_event : (p : ℕ × RaftMsg C) → AreBytesOf (raft_message f) (own_heading settings kind.Peer p.0) p.1 bytes
      → event_of other f from bytes ≡ (if takes settings other p.0 from then Some (Peer settings.me p.1) else None)
  packet_event p are =
      let h = own_heading settings kind.Peer p.0 in
      let request = under (client_request f) h bytes ((raft_message f).spell p.1) are.heading are.bytes in
      ap (λ o. option_or (peer_event other from o) (request_event other from (read_typed (client_request f) bytes)))
      (typed_back (raft_message f) (raft_message_is_format f is_f) h p.1 bytes are)
      ∙ (ap (λ o. option_or (if takes settings other p.0 from then Some (Peer settings.me p.1) else None)
      (request_event other from o)) request.1
      ∙ (ap (λ o. option_or (if takes settings other p.0 from then Some (Peer settings.me p.1) else None) o)
      (packet_no_request settings p.0 other from request.0)
      ∙ or_none (if takes settings other p.0 from then Some (Peer settings.me p.1) else None)))

  -- a reply's bytes are no event
  pub reply_no_event : (to : ℕ) (body : List ℕ) → heading.Fits (own_heading settings kind.Reply to)
      → bytes ≡ heading.spell (own_heading settings kind.Reply to) ++ body
      → event_of other f from bytes ≡ None
  reply_no_event to body fits is =
      let h = own_heading settings kind.Reply to in
      let message = under (raft_message f) h bytes body fits is in
      let request = under (client_request f) h bytes body fits is in
      ap (λ o. option_or (peer_event other from o) (request_event other from (read_typed (client_request f) bytes))) message.1
      ∙ (ap (λ o. option_or o (request_event other from (read_typed (client_request f) bytes)))
      (reply_no_message settings to other from message.0)
      ∙ (ap (λ o. request_event other from o) request.1 ∙ reply_no_request settings to other from request.0))

all_true : (a b c d e g : Bool) → a ≡ true → b ≡ true → c ≡ true → d ≡ true → e ≡ true → g ≡ true
    → ((((a && b) && c) && d) && (e && g)) ≡ true
all_true a b c d e g ea eb ec ed ee eg = rw (ea, eb, ec, ed, ee, eg) refl

-- the node of the cluster that the packet is to takes it, from the sender's address
pub takes_its_own : (settings other : Settings) (to : ℕ) (from : Address) → AreOfOneCluster settings other → other.me ≡ to
    → settings.me ≢ to
    → slice_get settings.peers settings.me ≡ Some from → takes settings other to from ≡ true
takes_its_own settings other to from one me another at =
    all_true true (stack_byte settings.stack == stack_byte other.stack) (to == other.me) (bytes_eq settings.name other.name) (not
    (settings.me == other.me))
    (is_at (slice_get other.peers settings.me) from) refl
    (eq-eqb (stack_byte settings.stack) (stack_byte other.stack) (ap stack_byte (sym one.stack))) (eq-eqb to other.me (sym me))
    ((bytes_eq-Decides settings.name other.name).1 (sym one.name)) (ap not (ne_eqb settings.me other.me (λ e. another (e ∙ me))))
    (ap (λ peers. is_at (slice_get peers settings.me) from) one.peers ∙ (ap (λ o. is_at o from) at ∙ at_its_own from))

not_same : (a b : ℕ) → not (a == b) ≡ true → a ≢ b
not_same a b e same = absurd (false≢true (sym (ap not (eq-eqb a b same)) ∙ e))

module _ {C O : Type 0} (f : Format C) (g : Format O) (is_f : IsFormat f) (is_g : IsFormat g) (settings other : Settings)
    (from : Address) (event : Event C) (may : MaySay f g settings) where
  was_taken : (p : ℕ × RaftMsg C) → takes settings other p.0 from ≡ true → Some (Peer settings.me p.1) ≡ Some event
      → IsTakenAs settings other from event p
  was_taken p takes e =
      let h = own_heading settings kind.Peer p.0 in
      let all = and_parts (is_for other kind.Peer h) (not (settings.me == other.me) && is_at
      (slice_get other.peers settings.me) from) takes in
      let heading = and_parts ((true && stack_byte settings.stack == stack_byte other.stack) && p.0 == other.me)
      (bytes_eq settings.name other.name) all.0 in
      let front = and_parts (true && stack_byte settings.stack == stack_byte other.stack) (p.0 == other.me) heading.0 in
      let place = and_parts (not (settings.me == other.me)) (is_at (slice_get other.peers settings.me) from) all.1 in
      record {
        is = sym (same_Some _ _ e);
        to = sym (eqb-true p.0 other.me front.1);
        stack = one_stack settings.stack other.stack may.stack (eqb-true (stack_byte settings.stack) (stack_byte other.stack) front.0);
        name = sym ((bytes_eq-Decides settings.name other.name).0 heading.1);
        another = not_same settings.me other.me place.0;
        address = is_there (slice_get other.peers settings.me) from place.1;
      }

  taken_if : (p : ℕ × RaftMsg C) (b : Bool) → takes settings other p.0 from ≡ b
      → (if b then Some (Peer settings.me p.1) else None) ≡ Some event
      → IsTakenAs settings other from event p
  taken_if p true takes e = was_taken p takes e
  taken_if p false takes e = absurd (none-some event e)

  -- what a node takes of a packet's datagram
  pub packet_taken : (p : ℕ × RaftMsg C) (d : Address × List ℕ) → HasFewBytes (raft_message f) p.1 → IsOfPacket settings f d p
      → event_of other f from d.1 ≡ Some event
      → IsTakenAs settings other from event p
  packet_taken p d few is e =
      taken_if p (takes settings other p.0 from) refl (sym (packet_event f is_f settings other from d.1 p
      (packet_bytes f g is_f is_g settings may d p few is)) ∙ e)

module _ {C O : Type 0} (f : Format C) (g : Format O) (is_f : IsFormat f) (is_g : IsFormat g) (settings other : Settings)
    (from : Address) (may : MaySay f g settings) where
  pub output_no_event : (o : RaftOut O) (d : Address × List ℕ) → IsOfOutput settings g d o → event_of other f from d.1 ≡ None
  output_no_event o d is =
      let r = reply_of o in
      let made = made_of settings (client_reply g) (slice_get settings.clients r.0) kind.Reply r.0 r.1 d is in
      reply_no_event f is_f settings other from d.1 r.0 ((client_reply g).spell r.1)
      (heading_to_client f g is_f is_g settings may d o is) made.1

  -- what a node hears of a datagram was sent to it
  pub heard_was_sent : {S : Type 0} (event : Event C) (effect : Effect S (RaftOut O) (RaftMsg C)) (d : Address × List ℕ)
      → ((p : ℕ × RaftMsg C) → Contains effect.sends p → HasFewBytes (raft_message f) p.1)
      → event_of other f from d.1 ≡ Some event → HasOrigin settings f g effect d → WasSentTo settings other effect.sends from event
  heard_was_sent event effect d few e (inl h) = record {
    packet = h.packet;
    sent = h.one;
    taken = packet_taken f g is_f is_g settings other from event may h.packet d (few h.packet h.one) h.is e;
  }
  heard_was_sent event effect d few e (inr h) = absurd (none-some event (sym (output_no_event h.output d h.is) ∙ e))
