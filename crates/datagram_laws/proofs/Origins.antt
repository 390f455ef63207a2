-- Each datagram that an event makes is of one of its packets or of one of its outputs.
use Rattle.std.proofs.Common.{◌≡◌, ℕ, List, [], ◌∷◌, Option, None, Some, slice_get, refl, inl, inr}
use Rattle.lists.specs.Each.{Each, each_append}
use Rattle.node_histories.proofs.Lists.{contains_here, contains_later}
use Rattle.outside.specs.declared.device.Address.{Address}
use Rattle.raft_types.specs.declared.client.RaftOut.{RaftOut}
use Rattle.raft_types.specs.declared.msg.RaftMsg.{RaftMsg}
use Rattle.wire_codec.specs.declared.kind.Kind.{Kind}
use Rattle.wire_codec.specs.declared.kind.Kind.TheVariants as kind
use Rattle.wire_fields.specs.Formats.{Format}
use Rattle.wire_messages.specs.ClientBytes.{client_reply}
use Rattle.wire_messages.specs.RaftBytes.{raft_message}
use Rattle.node_run.specs.Events.{datagram_to, packet_to, replied, reply_of, reply_to, sent}
use Rattle.node_run.specs.Settings.{Settings}
use Rattle.datagram_laws.specs.DatagramLaws.{EachHasOrigin}
use Rattle.datagram_laws.specs.Origins.{HasOrigin, HasOutput, HasPacket}

-- what holds of the datagram that is made, if one is
of_one : {M : Type 0} (settings : Settings) (F : Format M) (o : Option Address) (k : Kind) (to : ℕ) (message : M)
    (P : Address × List ℕ → Type 0)
    → ((d : Address × List ℕ) → datagram_to settings F o k to message ≡ d ∷ [] → P d) → Each P (datagram_to settings F o k to message)
of_one settings F None k to message P each = tt
of_one settings F (Some address) k to message P each = (each _ refl, tt)

module _ {C O : Type 0} (settings : Settings) (f : Format C) (g : Format O) (P : Address × List ℕ → Type 0) where
  of_sends : (sends : List (ℕ × RaftMsg C)) → ((d : Address × List ℕ) → HasPacket settings f sends d → P d) → Each P (sent settings f sends)
  of_sends [] each = tt
  of_sends (p ∷ sends) each =
      each_append P (packet_to settings f p) (sent settings f sends)
      (of_one settings (raft_message f) (slice_get settings.peers p.0) kind.Peer p.0 p.1 P
      (λ d is. each d (record { packet = p; one = contains_here p sends; is = is })))
      (of_sends sends (λ d h. each d (record { packet = h.packet; one = contains_later p sends h.packet h.one; is = h.is })))

  of_outputs : (outputs : List (RaftOut O)) → ((d : Address × List ℕ) → HasOutput settings g outputs d → P d)
      → Each P (replied settings g outputs)
  of_outputs [] each = tt
  of_outputs (o ∷ outputs) each =
      each_append P (reply_to settings g (reply_of o)) (replied settings g outputs)
      (of_one settings (client_reply g) (slice_get settings.clients (reply_of o).0) kind.Reply (reply_of o).0 (reply_of o).1 P
      (λ d is. each d (record { output = o; one = contains_here o outputs; is = is })))
      (of_outputs outputs (λ d h. each d (record { output = h.output; one = contains_later o outputs h.output h.one; is = h.is })))

pub each_has_origin : (S : Type 0) {C O : Type 0} (f : Format C) (g : Format O) → EachHasOrigin f g S
each_has_origin S f g settings effect =
    each_append (HasOrigin settings f g effect) (sent settings f effect.sends) (replied settings g effect.outputs)
    (of_sends settings f g (HasOrigin settings f g effect) effect.sends (λ d h. inl h))
    (of_outputs settings f g (HasOrigin settings f g effect) effect.outputs (λ d h. inr h))
