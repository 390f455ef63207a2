-- One step of handlers whose packets are bytes, beside the handlers within; and so every schedule on which what is sent has bytes.
use Rattle.std.specs.Prelude.{◌≡◌, ℕ, List, [], ◌∷◌, map, Option, None, Some, option_map, slice_get, refl}
use Rattle.std.specs.List.{All}
use Rattle.std.proofs.Common.{ap, ◌∙◌, sym}
use Rattle.handler_trait.specs.Handling.{Meaning, Recovery}
use Rattle.net_semantics.specs.Runs.{run_from}
use Rattle.net_semantics.specs.StepLaws.{delivered_there}
use Rattle.net_semantics.specs.Steps.{Event, after_event, after_network, copied, delivered, delivery, event_in, event_of, items_of, items_of_event, network_after, next, rebooted, refusal_in, with_packets}
use Rattle.net_semantics.specs.Worlds.{Packet, World, change_at, first_world, sent_by}
use Rattle.vst_base.specs.declared.net.Net.{Net}
use Rattle.vst_base.specs.declared.stack.StackId.{StackId}
use Rattle.vst_base.specs.declared.step.Step.{Step}
use Rattle.vst_base.specs.Nets.{AtNode, OfPacket, Starts, StepView, Stops, view_of}
use Rattle.wire_fields.specs.Formats.{Format, IsFormat}
use Rattle.wired.specs.WiredRuns.{IsSpelledPacket, WiredRunsAreTheSame, packet_in_bytes, world_in_bytes}
use Rattle.wired.specs.Wiring.{after_message, in_bytes, wired}
use Rattle.wired.proofs.Alike.{EachStepsTheSame, runs}
use Rattle.wired.proofs.HeardBack.{heard_back}
use Rattle.wired.proofs.Packets.{all_at, all_front, copied_in_bytes, copies_in_bytes, delivered_in_bytes, ends_in_bytes, first_in_bytes, joined_in_bytes, spelled_before, there_in_bytes}

module _ {M : Type 0} (f : Format M) (is_f : IsFormat f) (stack : StackId) (name : List ℕ) where
  abbrev AreSpelled : List (Packet M) → Type 0
  AreSpelled ps = All (IsSpelledPacket f stack name) ps

  module _ {S K I O : Type 0} (m : Meaning S I O M) (r : Recovery S K) where
    abbrev World' : Type 0
    World' = World S K (List ℕ)

    abbrev bytes : World S K M → World'
    bytes w = world_in_bytes f stack name w

    abbrev m' : Meaning S I O (List ℕ)
    m' = wired f stack name m

    -- a network refuses the same
    same_refusal : (net : Net) (w : World S K M) (s : StepView I) → refusal_in net m' (bytes w) s ≡ refusal_in net m w s
    same_refusal net w (AtNode n input) = refl
    same_refusal net w (OfPacket k fate) =
        let first = first_in_bytes f stack name w k in
        let there = copies_in_bytes f stack name w k in
        let ends = ends_in_bytes f stack name w k in
        rw (first, there, ends) refl
    same_refusal net w (Stops n) = refl
    same_refusal net w (Starts n) = refl

    -- an event in bytes
    abbrev event_in_bytes : Event S I O M → Event S I O (List ℕ)
    event_in_bytes e = record { node = e.node; input = e.input; effect = in_bytes f stack name e.node e.effect }

    after_in_bytes : (w : World S K M) (o : Option (Event S I O M)) → after_event (bytes w) (option_map event_in_bytes o) ≡ bytes (after_event w o)
    after_in_bytes w None = refl
    after_in_bytes w (Some e) = λ i. record {
      state = (after_event w (Some e)).state;
      is_up = w.is_up;
      kept = w.kept;
      packets = joined_in_bytes f stack name e.node w.packets e.effect.sends i;
    }

    items_in_bytes : (o : Option (Event S I O M)) → items_of_event (option_map event_in_bytes o) ≡ items_of_event o
    items_in_bytes None = refl
    items_in_bytes (Some e) = refl

    -- what is delivered is heard
    heard_at : (w : World S K M) (o : Option (Packet M)) → ((p : Packet M) → o ≡ Some p → IsSpelledPacket f stack name p)
        → delivery m' (bytes w) (option_map (packet_in_bytes f stack name) o) ≡ option_map event_in_bytes (delivery {I = I} m w o)
    heard_at w None spelled = refl
    heard_at w (Some p) spelled =
        let n = p.destination in
        ap (λ heard. Some (record { node = n; input = None; effect = in_bytes f stack name n (after_message m n (w.state n) p.source heard) }))
        (heard_back f is_f stack name p.source n p.content (spelled p refl))

    same_event : (w : World S K M) (s : StepView I) → AreSpelled w.packets → event_in m' (bytes w) s ≡ option_map event_in_bytes (event_in m w s)
    same_event w (AtNode n (Some i)) spelled = refl
    same_event w (AtNode n None) spelled = refl
    same_event w (OfPacket k fate) spelled =
        let there = slice_get w.packets k in
        ap (λ o. delivery m' (bytes w) (delivered fate o)) (there_in_bytes f stack name w.packets k) ∙ ap (delivery m' (bytes w)) (delivered_in_bytes f stack name fate there)
        ∙ heard_at w (delivered fate there) (λ p e. all_at (IsSpelledPacket f stack name) w.packets k p spelled (delivered_there fate there p e))
    same_event w (Stops n) spelled = refl
    same_event w (Starts n) spelled = refl

    same_items : (w : World S K M) (s : Step I) → AreSpelled w.packets → items_of m' (bytes w) s ≡ items_of m w s
    same_items w s spelled = ap (λ o. items_of_event {I = I} o) (same_event w (view_of s) spelled) ∙ items_in_bytes (event_of m w s)

    -- what the network itself does
    rebooted_in_bytes : (w : World S K M) (n : ℕ) (o : Option K) → rebooted r (bytes w) n o ≡ bytes (rebooted r w n o)
    rebooted_in_bytes w n None = refl
    rebooted_in_bytes w n (Some k) = refl

    with_in_bytes : (w : World S K M) (ps : List (Packet M)) (qs : List (Packet (List ℕ))) → map (packet_in_bytes f stack name) ps ≡ qs
        → with_packets (bytes w) qs ≡ bytes (with_packets w ps)
    with_in_bytes w ps qs e = ap (λ qs. with_packets (bytes w) qs) (sym e)

    same_network : (w : World S K M) (s : StepView I) → network_after r (bytes w) s ≡ bytes (network_after r w s)
    same_network w (AtNode n input) = refl
    same_network w (OfPacket k fate) = with_in_bytes w (change_at (copied fate) k w.packets) _ (copied_in_bytes f stack name fate k w.packets)
    same_network w (Stops n) = refl
    same_network w (Starts n) = rebooted_in_bytes w n (w.kept n)

    same_next : (w : World S K M) (s : Step I) → AreSpelled w.packets → next m' r (bytes w) s ≡ bytes (next m r w s)
    same_next w s spelled =
        (λ i. after_event (same_network w (view_of s) i) (same_event w (view_of s) spelled i)) ∙ after_in_bytes (after_network r w s) (event_of m w s)

    -- what is sent stays sent
    before_event : (w : World S K M) (o : Option (Event S I O M)) → AreSpelled (after_event w o).packets → AreSpelled w.packets
    before_event w None all = all
    before_event w (Some e) all = all_front (IsSpelledPacket f stack name) w.packets (sent_by e.node e.effect.sends) all

    before_reboot : (w : World S K M) (n : ℕ) (o : Option K) → AreSpelled (rebooted r w n o).packets → AreSpelled w.packets
    before_reboot w n None all = all
    before_reboot w n (Some k) all = all

    before_network : (w : World S K M) (s : StepView I) → AreSpelled (network_after r w s).packets → AreSpelled w.packets
    before_network w (AtNode n input) all = all
    before_network w (OfPacket k fate) all = spelled_before f stack name fate k w.packets all
    before_network w (Stops n) all = all
    before_network w (Starts n) all = before_reboot w n (w.kept n) all

    before_run : (w : World S K M) (ss : List (Step I)) → AreSpelled (run_from m r w ss).packets → AreSpelled w.packets
    before_run w [] all = all
    before_run w (s ∷ ss) all = before_network w (view_of s) (before_event (after_network r w s) (event_of m w s) (before_run (next m r w s) ss all))

    each_step : (w : World S K M) (ss : List (Step I)) → AreSpelled (run_from m r w ss).packets → EachStepsTheSame m' r m r bytes w ss
    each_step w [] all = tt
    each_step w (s ∷ ss) all =
        let spelled = before_run w (s ∷ ss) all in
        (record { items = same_items w s spelled; world = same_next w s spelled }, each_step (next m r w s) ss all)

    pub wired_runs : WiredRunsAreTheSame f stack name {I = I} {O = O} m r
    wired_runs net ss all = runs m' r m r bytes (λ net w s. same_refusal net w (view_of s)) net ss refl (each_step (first_world m) ss all)
