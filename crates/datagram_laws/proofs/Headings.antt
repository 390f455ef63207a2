-- What the datagram of a packet or of an output is made of.
use Rattle.std.proofs.Common.{◌≡◌, ℕ, Bool, true, false, List, [], ◌∷◌, ◌++◌, length, Option, None, Some, option_map, nat_le, slice_get, if◌then◌else◌, refl, sym, ap, subst, ◌∙◌, arith}
use Rattle.lists.specs.Each.{Each}
use Rattle.outside.specs.declared.device.Address.{Address}
use Rattle.raft_types.specs.declared.client.RaftOut.{RaftOut}
use Rattle.raft_types.specs.declared.client.RaftOut.TheVariants as out
use Rattle.raft_types.specs.declared.msg.RaftMsg.{RaftMsg}
use Rattle.wire_codec.specs.Datagrams.{AreBytesOf, read_typed, spell_datagram, with_message}
use Rattle.wire_codec.specs.HeadingLaws.{heading_is_format}
use Rattle.wire_codec.specs.Headings.{heading}
use Rattle.wire_codec.specs.declared.datagram.TheConstants.{MAX_DATAGRAM}
use Rattle.wire_codec.specs.declared.heading.Heading.{Heading}
use Rattle.wire_codec.specs.declared.kind.Kind.{Kind}
use Rattle.wire_codec.specs.declared.kind.Kind.TheVariants as kind
use Rattle.wire_fields.specs.Bytes.{number_bytes}
use Rattle.wire_fields.specs.Formats.{Format, IsFormat}
use Rattle.wire_messages.specs.ClientBytes.{client_reply}
use Rattle.wire_messages.specs.RaftBytes.{raft_message}
use Rattle.wire_messages.specs.Wires.{read_whole}
use Rattle.wire_messages.specs.declared.client.Answer.TheVariants as answer
use Rattle.wire_messages.specs.declared.client.ClientReply.{ClientReply}
use Rattle.node_run.proofs.Sayings.{all_heard, all_read}
use Rattle.node_run.specs.Events.{datagram_to, own_heading, reply_of}
use Rattle.node_run.specs.Saying.{HasFewBytes, MaySay}
use Rattle.node_run.specs.Settings.{Settings}
use Rattle.datagram_laws.specs.Origins.{IsOfOutput, IsOfPacket}

-- the address that it goes to, and its bytes
pub made_of : {M : Type 0} (settings : Settings) (F : Format M) (o : Option Address) (k : Kind) (to : ℕ) (message : M)
    (d : Address × List ℕ)
    → datagram_to settings F o k to message ≡ d ∷ [] → (o ≡ Some d.0) × (d.1 ≡ spell_datagram F (own_heading settings k to) message)
made_of settings F None k to message d e = absurd (cc e)
made_of settings F (Some address) k to message d e =
    let same : ◌≡◌ {A = Address × List ℕ} (address, spell_datagram F (own_heading settings k to) message) d = cc e in
    (ap (λ (x : Address × List ℕ). Some x.0) same, ap (λ (x : Address × List ℕ). x.1) (sym same))

-- bytes that begin with a heading are of no other, whatever message they are read as
pub under : {M : Type 0} (F : Format M) (h : Heading) (bytes body : List ℕ) → heading.Fits h → bytes ≡ heading.spell h ++ body
    → (o : Option M) × (read_typed F bytes ≡ option_map (λ m. (h, m)) o)
under {M} F h bytes body fits is = go (nat_le (length bytes) MAX_DATAGRAM)
  where
    go : (b : Bool) → (o : Option M) × (with_message F (if b then heading.read bytes else None) ≡ option_map (λ m. (h, m)) o)
    go true = (
      read_whole F body,
      ap (λ bs. with_message F (heading.read bs)) is ∙ ap (with_message F)
          (heading_is_format.reads_back h body fits),
    )
    go false = (None, refl)

module _ {C O : Type 0} (f : Format C) (g : Format O) (is_f : IsFormat f) (is_g : IsFormat g) (settings : Settings)
    (may : MaySay f g settings) (d : Address × List ℕ) where
  pub packet_bytes : (p : ℕ × RaftMsg C) → HasFewBytes (raft_message f) p.1 → IsOfPacket settings f d p
      → AreBytesOf (raft_message f) (own_heading settings kind.Peer p.0) p.1 d.1
  packet_bytes p few is =
      (subst (λ ds. Each (λ d. AreBytesOf (raft_message f) (own_heading settings kind.Peer p.0) p.1 d.1) ds) is
      ((all_heard f g settings may is_f is_g (p ∷ []) (few, tt)).0.datagram)).0

  pub output_bytes : (o : RaftOut O) → HasFewBytes (client_reply g) (reply_of o).1 → IsOfOutput settings g d o
      → AreBytesOf (client_reply g) (own_heading settings kind.Reply (reply_of o).0) (reply_of o).1 d.1
  output_bytes o few is =
      (subst (λ ds. Each (λ d. AreBytesOf (client_reply g) (own_heading settings kind.Reply (reply_of o).0) (reply_of o).1 d.1) ds) is
      ((all_read f g settings may is_f is_g (o ∷ []) (few, tt)).0.datagram)).0

abbrev refusal : (O : Type 0) → ClientReply O
refusal O = record { request = 0; answer = answer.NotLeader }

length_of_refusal : {O : Type 0} (g : Format O) → length ((client_reply g).spell (refusal O)) ≡ 9
unfolding number_bytes
length_of_refusal g = refl

few_of_refusal : {O : Type 0} (g : Format O) → HasFewBytes (client_reply g) (refusal O)
few_of_refusal g = (((omega arith, omega arith), tt), omega (arith, length_of_refusal g))

module _ {C O : Type 0} (f : Format C) (g : Format O) (is_f : IsFormat f) (is_g : IsFormat g) (settings : Settings)
    (may : MaySay f g settings) where
  -- an output's heading is in range, as that of a refusal to the same client, whether or not the output has bytes
  pub heading_to_client : (d : Address × List ℕ) (o : RaftOut O) → IsOfOutput settings g d o
      → heading.Fits (own_heading settings kind.Reply (reply_of o).0)
  heading_to_client d o is =
      let client = (reply_of o).0 in
      let refused : RaftOut O = out.NotLeader client 0 in
      let there : slice_get settings.clients client ≡ Some d.0 =
      (made_of settings (client_reply g) (slice_get settings.clients client) kind.Reply client (reply_of o).1 d is).0 in
      let r = reply_of refused in
      (output_bytes f g is_f is_g settings may (
        d.0,
        spell_datagram (client_reply g)
            (own_heading settings kind.Reply client) r.1,
      ) refused (few_of_refusal g)
      (ap (λ o. datagram_to settings (client_reply g) o kind.Reply client r.1) there)).heading
