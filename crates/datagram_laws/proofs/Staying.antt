-- A node whose events are datagrams, and whose log has bytes, sends packets that have bytes.
use Rattle.std.proofs.Common.{◌≡◌, ◌≢◌, ◌<◌, ◌≤◌, ◌==◌, ◌&&◌, not, ℕ, Bool, true, false, List, [], ◌∷◌, length, Option, None, Some, slice_get, if◌then◌else◌, refl, sym, ap, subst, ◌∙◌, arith}
use Rattle.std.specs.Option.{option_or}
use Rattle.std.proofs.lemmas.Bool.{and_parts, eq-eqb, false≢true}
use Rattle.std.proofs.lemmas.Option.{none-some, same_Some, slice_get_within}
use Rattle.lists.specs.Each.{Each}
use Rattle.node_body.specs.declared.commands.TheConstants.{MAX_COMMAND}
use Rattle.outside.specs.declared.device.Address.{Address}
use Rattle.raft_types.specs.declared.msg.RaftMsg.{RaftMsg}
use Rattle.raft_xform.proofs.Keeping.{keeps_input, keeps_message, keeps_tick}
use Rattle.raft_xform.proofs.Sounding.{sound_started}
use Rattle.raft_xform.specs.Nodes.{RaftEffect}
use Rattle.raft_xform.specs.Sound.{IsSoundNode}
use Rattle.wire_codec.specs.DatagramLaws.{typed_fits}
use Rattle.wire_codec.specs.Datagrams.{read_typed}
use Rattle.wire_codec.specs.Headings.{most_from}
use Rattle.wire_codec.specs.declared.heading.Heading.{Heading}
use Rattle.wire_codec.specs.declared.kind.Kind.{Kind}
use Rattle.wire_codec.specs.declared.kind.Kind.TheVariants as kind
use Rattle.wire_fields.specs.Formats.{Format, IsFormat}
use Rattle.wire_messages.specs.ClientByteLaws.{client_request_is_format}
use Rattle.wire_messages.specs.ClientBytes.{client_request}
use Rattle.wire_messages.specs.RaftByteLaws.{raft_message_is_format}
use Rattle.wire_messages.specs.RaftBytes.{raft_message}
use Rattle.wire_messages.specs.declared.client.ClientRequest.{ClientRequest}
use Rattle.wired.specs.RaftSavingLaws.{among_if, if_among}
use Rattle.wired.specs.RaftFitLaws.{AreFit, Fine, fit_in_range, input_fine, message_fine, raft_fits, tick_fine}
use Rattle.node_run.specs.Events.{is_at, is_for, peer_event, request_event}
use Rattle.node_run.specs.Runs.{effect_of}
use Rattle.node_run.specs.Saying.{HasFewBytes}
use Rattle.node_run.specs.Settings.{Settings}
use Rattle.node_run.specs.declared.event.Event.{Event}
use Rattle.node_run.specs.declared.event.Event.TheVariants.{Asked, Peer, Tick}
use Rattle.datagram_laws.proofs.Others.{input_to_others, message_to_others, tick_to_others}
use Rattle.datagram_laws.specs.DatagramLaws.{EventsHaveBytes, HasEventBytes, NodesKeepBytes, NodesStartInBytes, NodesStayInBytes, StaysInBytes}

few_from : (k : Kind) → most_from k ≤ 254
few_from kind.Peer = omega arith
few_from kind.Request = omega arith
few_from kind.Reply = omega arith

strange : (me from : ℕ) → not (from == me) ≡ true → me ≢ from
strange me from e same = absurd (false≢true (sym (ap not (eq-eqb from me (sym same))) ∙ e))

-- an address is that of a node of the list
within : (peers : List Address) (n : ℕ) (from : Address) → is_at (slice_get peers n) from ≡ true → n < length peers
within peers n from e = go (slice_get peers n) refl e
  where
    go : (o : Option Address) → slice_get peers n ≡ o → is_at o from ≡ true → n < length peers
    go None there e = absurd (false≢true e)
    go (Some address) there e = slice_get_within peers n address there

module _ {C : Type 0} (f : Format C) (is_f : IsFormat f) (settings : Settings) (from : Address) (bytes : List ℕ) (event : Event C) where
  abbrev Fits : Event C → Type 0
  Fits event = HasEventBytes f settings event

  abbrev is_message : Heading → Bool
  is_message h = is_for settings kind.Peer h && (not (h.from == settings.me) && is_at (slice_get settings.peers h.from) from)

  abbrev is_request : Heading → Bool
  is_request h = is_for settings kind.Request h && is_at (slice_get settings.clients h.from) from

  of_message : (o : Option (Heading × RaftMsg C)) → read_typed (raft_message f) bytes ≡ o → peer_event settings from o ≡ Some event
      → Fits event
  of_message None read e = absurd (none-some event e)
  of_message (Some p) read e = go (is_message p.0) refl e
    where
      go : (b : Bool) → is_message p.0 ≡ b → (if b then Some (Peer p.0.from p.1) else None) ≡ Some event → Fits event
      go true there e =
          let place = (and_parts _ _ there).1 in
          let below : p.0.from < length settings.peers = within settings.peers p.0.from from (and_parts _ _ place).1 in
          subst Fits (same_Some _ _ e) (
            (below, strange settings.me p.0.from (and_parts _ _ place).0),
            (typed_fits (raft_message f)
                (raft_message_is_format f is_f) bytes p.0 p.1 read).1,
          )
      go false there e = absurd (none-some event e)

  of_request : (o : Option (Heading × ClientRequest C)) → read_typed (client_request f) bytes ≡ o
      → request_event settings from o ≡ Some event → Fits event
  of_request None read e = absurd (none-some event e)
  of_request (Some p) read e = go (is_request p.0) e
    where
      go : (b : Bool) → (if b then Some (Asked
          (record { client = p.0.from; request = p.1.request; cmd = p.1.cmd })) else None) ≡ Some event → Fits event
      go true e =
          let fits = typed_fits (client_request f) (client_request_is_format f is_f) bytes p.0 p.1 read in
          let few : p.0.from ≤ most_from p.0.kind = fits.0.1.1.1.0.1 in
          subst Fits (same_Some _ _ e) (((omega arith, omega (arith, few, few_from p.0.kind)), fits.1.0), fits.1.1)
      go false e = absurd (none-some event e)

  of_either : (o u : Option (Event C)) → option_or o u ≡ Some event → (o ≡ Some event → Fits event) → (u ≡ Some event → Fits event)
      → Fits event
  of_either None u e here there = there e
  of_either (Some a) u e here there = here e

  pub has_bytes : option_or (peer_event settings from (read_typed (raft_message f) bytes)) (request_event settings from (read_typed
      (client_request f) bytes)) ≡ Some event
      → Fits event
  has_bytes e =
      of_either (peer_event settings from (read_typed (raft_message f) bytes)) (request_event settings from (read_typed
      (client_request f) bytes)) e
      (of_message (read_typed (raft_message f) bytes) refl) (of_request (read_typed (client_request f) bytes) refl)

pub events_have_bytes : {C : Type 0} (f : Format C) → IsFormat f → EventsHaveBytes f
events_have_bytes f is_f settings from bytes event e = has_bytes f is_f settings from bytes event e

module _ {C : Type 0} (f : Format C) (short : (c : C) → f.Fits c → length (f.spell c) ≤ MAX_COMMAND) where
  few_bytes : (sends : List (ℕ × RaftMsg C)) → AreFit f sends → Each (λ p. HasFewBytes (raft_message f) p.1) sends
  few_bytes [] fit = tt
  few_bytes (p ∷ sends) fit =
      let fits = raft_fits f short 0 0 p.1 fit.0 in
      ((fits.0, omega (arith, fits.1)), few_bytes sends fit.1)

  module _ {S O : Type 0} (g : Format O) where
    stays : (settings : Settings) (effect : RaftEffect S C O) → IsSoundNode (length settings.peers) settings.me effect.state → Fine f effect
        → Each (λ p. settings.me ≢ p.0) effect.sends → StaysInBytes f settings effect
    stays settings effect sound fine others = record { state = record { sound = sound; log = fine.log }; packets = few_bytes effect.sends fine.sends; others = others }

    pub nodes_stay_in_bytes : NodesStayInBytes S f g
    nodes_stay_in_bytes settings m s Tick is has =
        stays settings (effect_of settings m f g s Tick) (keeps_tick is.sound m).sound (tick_fine f is.sound is.log m)
        (tick_to_others settings.me (length settings.peers) m s).are
    nodes_stay_in_bytes settings m s (Peer from message) is has =
        stays settings (effect_of settings m f g s (Peer from message)) (keeps_message is.sound m from has.0.0 message
        (fit_in_range f message has.1)).sound
        (message_fine f is.sound is.log m from has.0.0 message has.1) (message_to_others settings.me
        (length settings.peers) m s from message has.0.1).are
    nodes_stay_in_bytes settings m s (Asked request) is has =
        stays settings (effect_of settings m f g s (Asked request)) (keeps_input is.sound m request).sound
        (input_fine f is.sound is.log m request has)
        (input_to_others settings.me (length settings.peers) m s request).are

module _ (S : Type 0) {C O : Type 0} (f : Format C) where
  pub nodes_start_in_bytes : (g : Format O) → NodesStartInBytes S f g
  nodes_start_in_bytes g settings m kept may is = record {
    sound = sound_started m kept.term kept.voted kept.log (omega (arith, may.me), may.peers) may.me is.term (if_among
        (length settings.peers) kept.voted is.vote) is.length;
    log = is.log;
  }

  pub nodes_keep_bytes : NodesKeepBytes S O f
  nodes_keep_bytes settings m s is = record {
    term = is.sound.term;
    vote = among_if (length settings.peers) s.ballot.voted is.sound.vote;
    length = is.sound.short;
    log = is.log;
  }
