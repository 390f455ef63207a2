-- What a node says is in the grammar, and is read.
use Rattle.std.proofs.Common.{◌≡◌, ◌<◌, ◌==◌, ℕ, Bool, true, not, ◌&&◌, bytes_eq, List, [], ◌∷◌, ◌++◌, length, Option, None, Some, slice_get, if◌then◌else◌, refl, sym, ap, ◌∙◌, arith, inl, inr}
use Rattle.std.specs.Option.{option_or}
use Rattle.std.proofs.lemmas.Bool.{eq-eqb, ne_eqb}
use Rattle.std.proofs.lemmas.Option.{slice_get_within}
use Rattle.std.proofs.lemmas.Slice.Eq.{bytes_eq-Decides}
use Rattle.lists.specs.Each.{Each, each_append}
use Rattle.outside.specs.declared.device.Address.{Address}
use Rattle.raft_types.specs.declared.client.RaftOut.{RaftOut}
use Rattle.raft_types.specs.declared.msg.RaftMsg.{RaftMsg}
use Rattle.vst_base.specs.declared.stack.StackId.{StackId}
use Rattle.vst_base.specs.declared.stack.StackId.TheVariants as stack
use Rattle.wire_codec.specs.DatagramLaws.{fitting, typed_back}
use Rattle.wire_codec.specs.Datagrams.{AreBytesOf, read_typed, spell_datagram}
use Rattle.wire_codec.specs.Headings.{HasByte, has_clients, heading, stack_byte}
use Rattle.wire_codec.specs.declared.kind.Kind.{Kind}
use Rattle.wire_codec.specs.declared.kind.Kind.TheVariants as kind
use Rattle.wire_fields.specs.Formats.{Format, IsFormat}
use Rattle.wire_messages.specs.ClientByteLaws.{client_reply_is_format}
use Rattle.wire_messages.specs.ClientBytes.{client_reply, client_request}
use Rattle.wire_messages.specs.RaftByteLaws.{raft_message_is_format}
use Rattle.wire_messages.specs.RaftBytes.{raft_message}
use Rattle.wire_messages.specs.declared.client.ClientReply.{ClientReply}
use Rattle.node_run.specs.Events.{datagram_to, event_of, is_at, is_for, own_heading, packet_to, peer_event, replied, reply_of, reply_to, request_event, sent}
use Rattle.node_run.specs.Saying.{HasFewBytes, IsInGrammar, IsOtherNode, MaySay, PacketIsHeard, ReplyIsRead}
use Rattle.node_run.specs.Settings.{Settings}
use Rattle.node_run.specs.declared.event.Event.TheVariants.{Peer}

has_byte : (s : StackId) → has_clients s ≡ true → HasByte s
has_byte stack.KvRaft has = tt
has_byte stack.TableRaft has = tt
has_byte stack.Kv has = cc
has_byte stack.Table has = cc
has_byte _ has = tt

-- what is said of one message: what holds of its datagram, holds of each
each_said : {M : Type 0} (settings : Settings) (f : Format M) (k : Kind) (to : ℕ) (message : M) (addresses : List Address) (P : Address × List ℕ → Type 0)
    → ((a : Address) → to < length addresses → P (a, spell_datagram f (own_heading settings k to) message)) → Each P (datagram_to settings f (slice_get addresses to) k to message)
each_said settings f k to message addresses P each = go (slice_get addresses to) refl
  where
    go : (o : Option Address) → slice_get addresses to ≡ o → Each P (datagram_to settings f o k to message)
    go None e = tt
    go (Some a) e = (each a (slice_get_within addresses to a e), tt)

all_true : (a b c d : Bool) → a ≡ true → b ≡ true → c ≡ true → d ≡ true → (((a && b) && c) && d) ≡ true
all_true a b c d ea eb ec ed = rw (ea, eb, ec, ed) refl

-- the heading of what is said is for the one that it is said to
is_for_other : (settings other : Settings) (n : ℕ) → IsOtherNode settings other n → is_for other kind.Peer (own_heading settings kind.Peer n) ≡ true
is_for_other settings other n is =
    all_true true (stack_byte settings.stack == stack_byte other.stack) (n == other.me) (bytes_eq settings.name other.name) refl
    (eq-eqb (stack_byte settings.stack) (stack_byte other.stack) (ap stack_byte (sym is.stack))) (eq-eqb n other.me (sym is.me))
    ((bytes_eq-Decides settings.name other.name).1 (sym is.name))

module _ {C O : Type 0} (f : Format C) (g : Format O) (settings : Settings) (may : MaySay f g settings) where
  packet_in_range : (to : ℕ) → to < length settings.peers → heading.Fits (own_heading settings kind.Peer to)
  packet_in_range to there =
      (tt, (has_byte settings.stack may.stack, ((tt, refl), ((omega arith, omega (arith, may.me, may.peers)), ((omega arith, omega (arith, there, may.peers)), may.named)))))

  reply_in_range : (to : ℕ) → to < length settings.clients → heading.Fits (own_heading settings kind.Reply to)
  reply_in_range to there =
      (tt, (has_byte settings.stack may.stack, ((tt, may.stack), ((omega arith, omega (arith, may.me, may.peers)), ((omega arith, omega (arith, there, may.clients)), may.named)))))

  packet_bytes : (p : ℕ × RaftMsg C) → HasFewBytes (raft_message f) p.1 → p.0 < length settings.peers
      → AreBytesOf (raft_message f) (own_heading settings kind.Peer p.0) p.1 (spell_datagram (raft_message f) (own_heading settings kind.Peer p.0) p.1)
  packet_bytes p few there = fitting (raft_message f) (own_heading settings kind.Peer p.0) p.1 may.packets (packet_in_range p.0 there) few.0 few.1

  reply_bytes : (r : ℕ × ClientReply O) → HasFewBytes (client_reply g) r.1 → r.0 < length settings.clients
      → AreBytesOf (client_reply g) (own_heading settings kind.Reply r.0) r.1 (spell_datagram (client_reply g) (own_heading settings kind.Reply r.0) r.1)
  reply_bytes r few there = fitting (client_reply g) (own_heading settings kind.Reply r.0) r.1 may.replies (reply_in_range r.0 there) few.0 few.1

  packet_grammar : (p : ℕ × RaftMsg C) → HasFewBytes (raft_message f) p.1 → Each (IsInGrammar f g settings) (packet_to settings f p)
  packet_grammar p few = each_said settings (raft_message f) kind.Peer p.0 p.1 settings.peers (IsInGrammar f g settings)
      (λ a there. inl (record { to = p.0; message = p.1; are = packet_bytes p few there }))

  reply_grammar : (r : ℕ × ClientReply O) → HasFewBytes (client_reply g) r.1 → Each (IsInGrammar f g settings) (reply_to settings g r)
  reply_grammar r few = each_said settings (client_reply g) kind.Reply r.0 r.1 settings.clients (IsInGrammar f g settings)
      (λ a there. inr (record { to = r.0; message = r.1; are = reply_bytes r few there }))

  sent_grammar : (sends : List (ℕ × RaftMsg C)) → Each (λ p. HasFewBytes (raft_message f) p.1) sends → Each (IsInGrammar f g settings) (sent settings f sends)
  sent_grammar [] few = tt
  sent_grammar (p ∷ sends) few =
      each_append (IsInGrammar f g settings) (packet_to settings f p) (sent settings f sends) (packet_grammar p few.0) (sent_grammar sends few.1)

  told_grammar : (outputs : List (RaftOut O)) → Each (λ o. HasFewBytes (client_reply g) (reply_of o).1) outputs → Each (IsInGrammar f g settings) (replied settings g outputs)
  told_grammar [] few = tt
  told_grammar (o ∷ outputs) few =
      each_append (IsInGrammar f g settings) (reply_to settings g (reply_of o)) (replied settings g outputs) (reply_grammar (reply_of o) few.0) (told_grammar outputs few.1)

  pub all_in_grammar : (sends : List (ℕ × RaftMsg C)) (outputs : List (RaftOut O)) → Each (λ p. HasFewBytes (raft_message f) p.1) sends
      → Each (λ o. HasFewBytes (client_reply g) (reply_of o).1) outputs → Each (IsInGrammar f g settings) (sent settings f sends ++ replied settings g outputs)
  all_in_grammar sends outputs packets replies =
      each_append (IsInGrammar f g settings) (sent settings f sends) (replied settings g outputs) (sent_grammar sends packets) (told_grammar outputs replies)

  module _ (is_f : IsFormat f) (is_g : IsFormat g) where
    -- a node takes the packet's message
    taken : (p : ℕ × RaftMsg C) (other : Settings) (from : Address) (bytes : List ℕ) → IsOtherNode settings other p.0 → is_at (slice_get other.peers settings.me) from ≡ true
        → AreBytesOf (raft_message f) (own_heading settings kind.Peer p.0) p.1 bytes → event_of other f from bytes ≡ Some (Peer settings.me p.1)
    taken p other from bytes is at are =
        let h = own_heading settings kind.Peer p.0 in
        let strange : not (settings.me == other.me) ≡ true = ap not (ne_eqb settings.me other.me (λ e. is.another (e ∙ is.me))) in
        let comes : (is_for other kind.Peer h && (not (settings.me == other.me) && is_at (slice_get other.peers settings.me) from)) ≡ true =
        rw (is_for_other settings other p.0 is, strange, at) refl in
        let event : peer_event other from (Some (h, p.1)) ≡ Some (Peer settings.me p.1) = ap (λ b. if b then Some (Peer settings.me p.1) else None) comes in
        ap (λ o. option_or (peer_event other from o) (request_event other from (read_typed (client_request f) bytes)))
        (typed_back (raft_message f) (raft_message_is_format f is_f) h p.1 bytes are)
        ∙ ap (λ o. option_or o (request_event other from (read_typed (client_request f) bytes))) event

    packet_heard : (p : ℕ × RaftMsg C) → HasFewBytes (raft_message f) p.1 → PacketIsHeard f settings p
    packet_heard p few = record {
      datagram = each_said settings (raft_message f) kind.Peer p.0 p.1 settings.peers _ (λ a there. packet_bytes p few there);
      heard = λ other from is at. each_said settings (raft_message f) kind.Peer p.0 p.1 settings.peers _ (λ a there. taken p other from _ is at (packet_bytes p few there));
    }

    pub all_heard : (sends : List (ℕ × RaftMsg C)) → Each (λ p. HasFewBytes (raft_message f) p.1) sends → Each (PacketIsHeard f settings) sends
    all_heard [] few = tt
    all_heard (p ∷ sends) few = (packet_heard p few.0, all_heard sends few.1)

    reply_read : (r : ℕ × ClientReply O) → HasFewBytes (client_reply g) r.1 → ReplyIsRead g settings r
    reply_read r few = record {
      datagram = each_said settings (client_reply g) kind.Reply r.0 r.1 settings.clients _ (λ a there. reply_bytes r few there);
      read = each_said settings (client_reply g) kind.Reply r.0 r.1 settings.clients _
          (λ a there. typed_back (client_reply g) (client_reply_is_format g is_g) (own_heading settings kind.Reply r.0) r.1 _ (reply_bytes r few there));
    }

    pub all_read : (outputs : List (RaftOut O)) → Each (λ o. HasFewBytes (client_reply g) (reply_of o).1) outputs → Each (λ o. ReplyIsRead g settings (reply_of o)) outputs
    all_read [] few = tt
    all_read (o ∷ outputs) few = (reply_read (reply_of o) few.0, all_read outputs few.1)
