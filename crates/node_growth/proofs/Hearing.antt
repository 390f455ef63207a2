-- A datagram that is an event comes from a node of the cluster, and says something in range.
use Rattle.std.proofs.Common.{◌≡◌, ℕ, ◌<◌, Bool, true, false, not, ◌&&◌, ◌==◌, List, length, Option, Some, None, refl, subst, ◌∙◌, if◌then◌else◌}
use Rattle.std.proofs.lemmas.Bool.{and_parts, false≢true, leb-true}
use Rattle.std.proofs.lemmas.Option.{slice_get_within}
use Rattle.std.specs.List.{slice_get}
use Rattle.std.specs.Option.{option_or}
use Rattle.outside.specs.declared.device.Address.{Address}
use Rattle.raft_types.specs.declared.client.RaftInput.{RaftInput}
use Rattle.raft_types.specs.declared.msg.RaftMsg.{RaftMsg}
use Rattle.raft_types.specs.declared.msg.RaftMsg.TheVariants as msg
use Rattle.raft_xform.specs.Sound.{IsInRange}
use Rattle.wire_codec.specs.DatagramLaws.{typed_fits}
use Rattle.wire_codec.specs.Datagrams.{read_typed}
use Rattle.wire_codec.specs.declared.heading.Heading.{Heading}
use Rattle.wire_codec.specs.declared.kind.Kind.TheVariants as kind
use Rattle.wire_fields.specs.Formats.{Format, IsFormat}
use Rattle.wire_messages.specs.ClientBytes.{client_request}
use Rattle.wire_messages.specs.RaftByteLaws.{raft_message_is_format}
use Rattle.wire_messages.specs.RaftBytes.{raft_message}
use Rattle.wire_messages.specs.declared.client.ClientRequest.{ClientRequest}
use Rattle.node_run.specs.Events.{is_at, is_for, peer_event, request_event}
use Rattle.node_run.specs.Settings.{Settings}
use Rattle.node_run.specs.declared.event.Event.{Event}
use Rattle.node_run.specs.declared.event.Event.TheVariants.{Peer, Asked}
use Rattle.node_growth.specs.Growth.{IsOfCluster}
use Rattle.node_growth.specs.GrowthLaws.{HeardIsOfCluster}

fits_in_range : {C : Type 0} (f : Format C) (message : RaftMsg C) → (raft_message f).Fits message → IsInRange message
fits_in_range f (msg.RequestVote r) fits = fits.0.1
fits_in_range f (msg.Vote v) fits = fits.0.1
fits_in_range f (msg.Append a) fits = (fits.0.0.1, leb-true _ _ fits.1)
fits_in_range f (msg.Appended a) fits = fits.0.1

-- an address is that of a node of the list
is_within : (peers : List Address) (node : ℕ) (from : Address) → is_at (slice_get peers node) from ≡ true → node < length peers
is_within peers node from e = go (slice_get peers node) refl e
  where
    go : (o : Option Address) → slice_get peers node ≡ o → is_at o from ≡ true → node < length peers
    go None there e = absurd (false≢true e)
    go (Some address) there e = slice_get_within peers node address there

module _ {C : Type 0} (f : Format C) (is_f : IsFormat f) (settings : Settings) (from : Address) (bytes : List ℕ) (event : Event C) where
  abbrev nodes : ℕ
  nodes = length settings.peers

  -- whether such a heading is of a message of another node, from its address
  abbrev comes : Heading → Bool
  comes h = is_for settings kind.Peer h && (not (h.from == settings.me) && is_at (slice_get settings.peers h.from) from)

  of_peer : (o : Option (Heading × RaftMsg C)) → read_typed (raft_message f) bytes ≡ o → peer_event settings from o ≡ Some event →
      IsOfCluster nodes event
  of_peer None read e = absurd (cc e)
  of_peer (Some p) read e = go (comes p.0) refl e
    where
      go : (b : Bool) → comes p.0 ≡ b → (if b then Some (Peer p.0.from p.1) else None) ≡ Some event → IsOfCluster nodes event
      go true there e =
          let same : Peer p.0.from p.1 ≡ event = cc e in
          let below : p.0.from < nodes = is_within settings.peers p.0.from from (and_parts _ _ (and_parts _ _ there).1).1 in
          let fits = (typed_fits (raft_message f) (raft_message_is_format f is_f) bytes p.0 p.1 read).1 in
          subst (λ v. IsOfCluster nodes v) same (below, fits_in_range f p.1 fits)
      go false there e = absurd (cc e)

  of_asked : (input : RaftInput C) (b : Bool) → (if b then Some (Asked input) else None) ≡ Some event → IsOfCluster nodes event
  of_asked input true e = let same : Asked input ≡ event = cc e in subst (λ v. IsOfCluster nodes v) same tt
  of_asked input false e = absurd (cc e)

  of_request : (o : Option (Heading × ClientRequest C)) → request_event settings from o ≡ Some event → IsOfCluster nodes event
  of_request None e = absurd (cc e)
  of_request (Some p) e =
      of_asked (record { client = p.0.from; request = p.1.request; cmd = p.1.cmd })
      (is_for settings kind.Request p.0 && is_at (slice_get settings.clients p.0.from) from) e

  of_either : (o : Option (Event C)) → peer_event settings from (read_typed (raft_message f) bytes) ≡ o →
      option_or o (request_event settings from (read_typed (client_request f) bytes)) ≡ Some event → IsOfCluster nodes event
  of_either (Some v) is e = of_peer (read_typed (raft_message f) bytes) refl (is ∙ e)
  of_either None is e = of_request (read_typed (client_request f) bytes) e

pub heard_is_of_cluster : {C : Type 0} (f : Format C) → IsFormat f → HeardIsOfCluster f
heard_is_of_cluster f is_f settings from bytes event e =
    of_either f is_f settings from bytes event (peer_event settings from (read_typed (raft_message f) bytes)) refl e
