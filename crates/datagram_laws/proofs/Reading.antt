-- What is taken of the datagram of a packet and of an output, by nodes and by clients, and whose it is.
use Rattle.std.proofs.Common.{◌≡◌, ℕ, Bool, List, [], ◌∷◌, Option, None, Some, option_map, slice_get, if◌then◌else◌, refl, sym, ap, subst, ◌∙◌, inl, inr}
use Rattle.std.specs.Prelude.{Contains}
use Rattle.std.proofs.lemmas.Option.{same_Some}
use Rattle.lists.specs.Each.{Each}
use Rattle.node_histories.proofs.Lists.{contains_cases, contains_none}
use Rattle.raft_types.specs.declared.client.RaftOut.{RaftOut}
use Rattle.raft_types.specs.declared.client.RaftOut.TheVariants as out
use Rattle.raft_types.specs.declared.msg.RaftMsg.{RaftMsg}
use Rattle.wire_codec.specs.DatagramLaws.{typed_back}
use Rattle.wire_codec.specs.Datagrams.{AreBytesOf, read_typed}
use Rattle.wire_codec.specs.declared.heading.Heading.{Heading}
use Rattle.wire_codec.specs.declared.kind.Kind.TheVariants as kind
use Rattle.wire_fields.specs.Formats.{Format, IsFormat}
use Rattle.wire_messages.specs.ClientByteLaws.{client_reply_is_format}
use Rattle.wire_messages.specs.ClientBytes.{client_reply}
use Rattle.wire_messages.specs.RaftByteLaws.{raft_message_is_format}
use Rattle.wire_messages.specs.RaftBytes.{raft_message}
use Rattle.wire_messages.specs.declared.client.ClientReply.{ClientReply}
use Rattle.node_run.specs.Events.{own_heading, reply_of, said_by}
use Rattle.node_run.specs.Settings.{Settings}
use Rattle.node_run.specs.declared.event.Event.TheVariants.{Peer}
use Rattle.datagram_laws.proofs.Headings.{made_of, output_bytes, packet_bytes, under}
use Rattle.datagram_laws.proofs.Hearing.{heard_was_sent, output_no_event, packet_event, packet_taken, takes_its_own}
use Rattle.datagram_laws.proofs.Origins.{each_has_origin}
use Rattle.datagram_laws.specs.DatagramLaws.{BytesAreOfOneOutput, BytesAreOfOnePacket, OutputsAreNoEvents, OutputsAreRead, PacketsAreHeard, PacketsAreTakenAsSent, WhatIsHeardWasSaid}
use Rattle.datagram_laws.specs.Origins.{HasOrigin, output_by, output_in, read_output}

of_contained : {A : Type 0} (P : A → Type 0) (xs : List A) (x : A) → Each P xs → Contains xs x → P x
of_contained P [] x all i = absurd (contains_none x i)
of_contained P (y ∷ xs) x all i = elim
    (contains_cases y xs x i) [ inl same ↦ subst P same all.0 | inr later ↦ of_contained P xs x all.1 later ]

-- a reply is of one output
back : {O : Type 0} (o : RaftOut O) → output_by (reply_of o).0 (reply_of o).1.request (reply_of o).1.answer ≡ o
back (out.Reply client request output) = refl
back (out.NotLeader client request) = refl
back (out.Full client request) = refl

packet_no_reply : {O : Type 0} (settings : Settings) (to : ℕ) (o : Option (ClientReply O))
    → output_in (option_map (λ m. (own_heading settings kind.Peer to, m)) o) ≡ None
packet_no_reply settings to None = refl
packet_no_reply settings to (Some r) = refl

module _ {C O : Type 0} (f : Format C) (g : Format O) (is_f : IsFormat f) (is_g : IsFormat g) where
  pub packets_are_heard : PacketsAreHeard f g
  packets_are_heard settings p d may few is =
      let made = made_of settings (raft_message f) (slice_get settings.peers p.0) kind.Peer p.0 p.1 d is in
      let are = packet_bytes f g is_f is_g settings may d p few is in
      let reply = under (client_reply g) (own_heading settings kind.Peer p.0) d.1 ((raft_message f).spell p.1) are.heading are.bytes in
      record {
        address = made.0;
        size = are.size;
        event = λ other from one me another at.
            packet_event f is_f settings other from d.1 p are
            ∙ ap (λ (b : Bool). if b then Some (Peer settings.me p.1) else None) (takes_its_own settings other p.0 from one me another at);
        no_reply = ap output_in reply.1 ∙ packet_no_reply settings p.0 reply.0;
      }

  outputs_read : (settings : Settings) (o : RaftOut O) (bytes : List ℕ)
      → AreBytesOf (client_reply g) (own_heading settings kind.Reply (reply_of o).0) (reply_of o).1 bytes
      → read_output g bytes ≡ Some (own_heading settings kind.Reply (reply_of o).0, o)
  outputs_read settings o bytes are =
      let h = own_heading settings kind.Reply (reply_of o).0 in
      ap output_in (typed_back (client_reply g) (client_reply_is_format g is_g) h (reply_of o).1 bytes are)
      ∙ ap (λ (u : RaftOut O). let found : Option (Heading × RaftOut O) = Some (h, u) in found) (back o)

  pub outputs_are_read : OutputsAreRead f g
  outputs_are_read settings o d may few is =
      let r = reply_of o in
      let made = made_of settings (client_reply g) (slice_get settings.clients r.0) kind.Reply r.0 r.1 d is in
      let are = output_bytes f g is_f is_g settings may d o few is in
      record {
        address = made.0;
        size = are.size;
        output = outputs_read settings o d.1 are;
      }

  pub packets_are_taken_as_sent : PacketsAreTakenAsSent f g
  packets_are_taken_as_sent settings other p d from event may few is e = packet_taken f g is_f is_g settings other from event may p d few is e

  pub outputs_are_no_events : OutputsAreNoEvents f g
  outputs_are_no_events settings other o d from may is = output_no_event f g is_f is_g settings other from may o d is

  pub what_is_heard_was_said : (S : Type 0) → WhatIsHeardWasSaid f g S
  what_is_heard_was_said S settings other effect d from event may few said e =
      heard_was_sent f g is_f is_g settings other from may event effect d (λ p one. of_contained _ effect.sends p few one) e
      (of_contained (HasOrigin settings f g effect) (said_by settings f g effect) d (each_has_origin S f g settings effect) said)

  pub bytes_are_of_one_packet : BytesAreOfOnePacket f g
  bytes_are_of_one_packet settings other p q d e may also few_p few_q is_p is_q bytes =
      let h = own_heading settings kind.Peer p.0 in
      let k = own_heading other kind.Peer q.0 in
      let one = typed_back (raft_message f) (raft_message_is_format f is_f) h p.1 d.1
      (packet_bytes f g is_f is_g settings may d p few_p is_p) in
      let two = typed_back (raft_message f) (raft_message_is_format f is_f) k q.1 e.1
      (packet_bytes f g is_f is_g other also e q few_q is_q) in
      let same : ◌≡◌ {A = Heading × RaftMsg C} (h, p.1) (k, q.1) = same_Some _ _ (sym one ∙ (ap (read_typed
      (raft_message f)) bytes ∙ two)) in
      record {
        me = ap (λ (x : Heading × RaftMsg C). x.0.from) same;
        stack = ap (λ (x : Heading × RaftMsg C). x.0.stack) same;
        name = ap (λ (x : Heading × RaftMsg C). x.0.name) same;
        same = ap (λ (x : Heading × RaftMsg C). let y : ℕ × RaftMsg C = (x.0.to, x.1) in y) same;
      }

  pub bytes_are_of_one_output : BytesAreOfOneOutput f g
  bytes_are_of_one_output settings other o u d e may also few_o few_u is_o is_u bytes =
      let h = own_heading settings kind.Reply (reply_of o).0 in
      let k = own_heading other kind.Reply (reply_of u).0 in
      let one = outputs_read settings o d.1 (output_bytes f g is_f is_g settings may d o few_o is_o) in
      let two = outputs_read other u e.1 (output_bytes f g is_f is_g other also e u few_u is_u) in
      let same : ◌≡◌ {A = Heading × RaftOut O} (h, o) (k, u) = same_Some _ _ (sym one ∙ (ap (read_output g) bytes ∙ two)) in
      record {
        me = ap (λ (x : Heading × RaftOut O). x.0.from) same;
        stack = ap (λ (x : Heading × RaftOut O). x.0.stack) same;
        name = ap (λ (x : Heading × RaftOut O). x.0.name) same;
        same = ap (λ (x : Heading × RaftOut O). x.1) same;
      }
