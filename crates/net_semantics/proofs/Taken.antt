-- What each kind of step makes of what a `World` shows, from what its parts do.
use Rattle.std.proofs.Common.{◌≡◌, ◌≢◌, ℕ, zero, suc, ◌+◌, ◌-◌, ◌<◌, ◌≤◌, List, [], ◌∷◌, ◌++◌, length, map, Option, Some, None, refl, ap, sym, ◌∙◌, subst, arith, eqb, true, false, length-append, append_assoc, inl, inr}
use Rattle.std.proofs.lemmas.List.{length-map, append-nil}
use Rattle.std.specs.Prelude.{◌==◌, nat_lt, slice_get, IfSome, IsSome, if◌then◌else◌}
use Rattle.std.proofs.lemmas.Bool.{ne_eqb, eq-eqb, cases_eq, cases_lt, lt-ltb, false≢true}
use Rattle.std.proofs.lemmas.Option.{IfSome_then, MatchOption-from_none, slice_get_past}
use Rattle.handler_trait.specs.Facts.{Promises}
use Rattle.handler_trait.specs.Handling.{Meaning, Effect, IsModest, AreSentBelow, Gathered}
use Rattle.handler_trait.specs.declared.handlers.TheConstants.{MAX_OUTPUTS, MAX_SENDS}
use Rattle.vst_base.specs.declared.net.Net.{Net}
use Rattle.vst_base.specs.declared.net.Net.TheVariants as net
use Rattle.vst_base.specs.declared.step.Step.{Step}
use Rattle.vst_base.specs.declared.step.Step.TheVariants as step
use Rattle.vst_base.specs.declared.step.StepKind.TheVariants as kind
use Rattle.vst_base.specs.declared.step.Item.{Item}
use Rattle.vst_base.specs.declared.step.TheConstants.{MAX_STEPS}
use Rattle.vst_base.specs.Nets.{has_kind, keeps_order}
use Rattle.vst_base.specs.declared.step.Item.TheVariants as item
use Rattle.net_semantics.specs.Worlds.{World, Packet, put, change_at, one_more, one_less, sent_by, copies}
use Rattle.net_semantics.specs.Steps.{next, refusal_of, items_of, input_item, delivery, after_event, with_packets, items_of_event}
use Rattle.net_semantics.specs.Runs.{no_recovery}
use Rattle.net_semantics.specs.Shown.{Shown, ShowsPacket, WorldView, Shows, ShowsAt, IsSound, IsSoundPacket, IsSoundState}
use Rattle.net_semantics.specs.Held.{held_sent, held_more, held_less, held_copies}
use Rattle.net_semantics.specs.Taking.{GrowsBy, Happens, IsReady, Takes}
use Rattle.net_semantics.proofs.Places.{put-there, put-elsewhere, length-change_at, change_at-there, change_at-elsewhere, each-append, each-change_at}
use Rattle.net_semantics.specs.Order.{IsInOrder}
use Rattle.net_semantics.proofs.Ordering.{order-sent}
use Rattle.net_semantics.proofs.Showing.{ShowsAll, shown-append, shown_sent, shown-change_at, shown_more, shown_less, packet_of_shown}
use Rattle.lists.specs.Options.{of_some, some_holds}
use Rattle.lists.specs.Places.{slice_get_there}

-- each packet that a node sends is sound
each_sent : {M : Type 0} (nodes taken n : ℕ) → n < nodes → 1 ≤ taken → (sends : List (ℕ × M)) → AreSentBelow nodes sends → (k : ℕ) → IfSome (slice_get (map (held_sent n) sends) k) (IsSoundPacket nodes taken)
each_sent nodes taken n lt one [] below k = tt
each_sent nodes taken n lt one (p ∷ ps) below zero = record { source = lt; destination = below.0; copies = one; content = λ _. refl; gone = λ e. absurd (omega arith) }
each_sent nodes taken n lt one (p ∷ ps) below (suc k) = each_sent nodes taken n lt one ps below.1 k

later : {M : Type 0} (nodes taken taken2 : ℕ) → taken ≤ taken2 → (p : Shown M) → IsSoundPacket nodes taken p → IsSoundPacket nodes taken2 p
later nodes taken taken2 le p h = record { source = h.source; destination = h.destination; copies = let l = h.copies in omega arith; content = h.content; gone = h.gone }

pub each_later : {M : Type 0} (nodes taken taken2 : ℕ) → taken ≤ taken2 → (ps : List (Shown M)) → ((k : ℕ) → IfSome (slice_get ps k) (IsSoundPacket nodes taken)) → (k : ℕ) → IfSome (slice_get ps k) (IsSoundPacket nodes taken2)
each_later nodes taken taken2 le ps h k = IfSome_then (slice_get ps k) (h k) (λ p s. later nodes taken taken2 le p s)

less_content : {M : Type 0} (n : ℕ) (o : Option M) → 0 < n → IsSome o → IsSome (if n == 0 then None else o)
less_content n o h s = let f : eqb n 0 ≡ false = ne_eqb n 0 (λ z. omega arith) in rw f s

less_gone : {M : Type 0} (n : ℕ) (o : Option M) → n ≡ 0 → (if n == 0 then None else o) ≡ None
less_gone n o z = let t : eqb n 0 ≡ true = eq-eqb n 0 z in rw t refl

pub less_sound : {M : Type 0} (nodes taken : ℕ) (p : Shown M) → IsSoundPacket nodes taken p → IsSoundPacket nodes taken (held_less p)
less_sound nodes taken p h = record {
  source = h.source;
  destination = h.destination;
  copies = let l = h.copies in omega arith;
  content = λ l. less_content (p.copies - 1) p.content l (h.content (omega arith));
  gone = λ e. less_gone (p.copies - 1) p.content e;
}

more_sound : {M : Type 0} (nodes taken : ℕ) (o : Option (Shown M)) → 0 < held_copies o → IfSome o (IsSoundPacket nodes taken) → IfSome o (λ p. IsSoundPacket nodes (taken + 1) (held_more p))
more_sound nodes taken None l h = tt
more_sound nodes taken (Some p) l h = record {
  source = h.source;
  destination = h.destination;
  copies = let c = h.copies in omega arith;
  content = λ _. h.content l;
  gone = λ e. absurd (omega arith);
}

-- an event has one input at most
input_once : {I : Type 0} (O : Type 0) (n : ℕ) (input : Option I) → length (input_item {O = O} n input) ≤ 1
input_once O n None = omega arith
input_once O n (Some i) = omega arith

-- an event happened at node n: it made gathered, and the packets were base before its sends
pub record Occurs {H S I O M : Type 0} (x : Promises S I O M) (v v2 : WorldView H S I O M) (n : ℕ) (input : Option I) (event : S → Effect S O M) (gathered : Gathered O M) (base : List (Shown M)) : Type 0 where
  pub was : IsSound x v
  pub few : v.taken < MAX_STEPS
  pub node : n < x.meaning.nodes
  pub happens : Happens event n v.states v2.states gathered
  pub kept : IfSome (slice_get v2.states n) (x.sound n)
  pub modest : (s : S) → x.sound n s → IsModest x.meaning.nodes MAX_SENDS (x.sound n) x.spent s (event s)
  pub packets : v2.packets ≡ base ++ map (held_sent n) gathered.sends
  pub trace : v2.trace ≡ v.trace ++ (input_item n input ++ map (λ o. item.Output n o) gathered.outputs)
  pub taken : v2.taken ≡ v.taken + 1
  pub same_net : v2.net ≡ v.net
  pub in_order : keeps_order v.net ≡ true → IsInOrder base

module _ {H S I O M : Type 0} (x : Promises S I O M) (v v2 : WorldView H S I O M) (n : ℕ) (input : Option I) (event : S → Effect S O M) (gathered : Gathered O M) (base : List (Shown M)) (h : Occurs x v v2 n input event gathered base) where
  stood : (s : S) × (slice_get v.states n ≡ Some s)
  stood = slice_get_there v.states n (subst (λ l. n < l) (sym h.was.nodes) h.node)

  stood_shown : (w : World S S M) → Shows x.meaning.nodes v w → slice_get v.states n ≡ Some (w.state n)
  stood_shown w sh = sh.states n h.node

  outputs_shown : (w : World S S M) → Shows x.meaning.nodes v w → gathered.outputs ≡ (event (w.state n)).outputs
  outputs_shown w sh = of_some (λ s. gathered.outputs ≡ (event s).outputs) (slice_get v.states n) (w.state n) (stood_shown w sh) h.happens.outputs

  sends_shown : (w : World S S M) → Shows x.meaning.nodes v w → gathered.sends ≡ (event (w.state n)).sends
  sends_shown w sh = of_some (λ s. gathered.sends ≡ (event s).sends) (slice_get v.states n) (w.state n) (stood_shown w sh) h.happens.sends

  stands_after : (s : S) → slice_get v.states n ≡ Some s → (k : ℕ) → k ≡ n → slice_get v2.states k ≡ Some (event s).state
  stands_after s e k same = subst (λ j. slice_get v2.states j ≡ Some (event s).state) (sym same) (ap (λ xs. slice_get xs n) h.happens.put ∙ change_at-there (λ t. (event t).state) v.states n s e)

  stays : (k : ℕ) → k ≢ n → slice_get v2.states k ≡ slice_get v.states k
  stays k ne = ap (λ xs. slice_get xs k) h.happens.put ∙ change_at-elsewhere (λ t. (event t).state) v.states n k ne

  pub states_shown : (w : World S S M) → Shows x.meaning.nodes v w → (k : ℕ) → k < x.meaning.nodes → slice_get v2.states k ≡ Some (put w.state n (event (w.state n)).state k)
  states_shown w sh k lt = elim (cases_eq k n) [
    | inl e ↦ stands_after (w.state n) (stood_shown w sh) k e ∙ ap (λ s. Some s) (sym (put-there w.state n (event (w.state n)).state k e))
    | inr ne ↦ stays k ne ∙ (sh.states k lt ∙ ap (λ s. Some s) (sym (put-elsewhere w.state n (event (w.state n)).state k ne)))
  ]

  pub packets_shown : (w : World S S M) → Shows x.meaning.nodes v w → (qs : List (Packet M)) → ShowsAll base qs → ShowsAll v2.packets (qs ++ sent_by n (event (w.state n)).sends)
  packets_shown w sh qs all =
      subst (λ ps. ShowsAll ps (qs ++ sent_by n (event (w.state n)).sends)) (sym h.packets)
      (subst (λ xs. ShowsAll (base ++ map (held_sent n) gathered.sends) (qs ++ sent_by n xs)) (sends_shown w sh) (shown-append base (map (held_sent n) gathered.sends) qs (sent_by n gathered.sends) all (shown_sent n gathered.sends)))

  pub trace_shown : (w : World S S M) → Shows x.meaning.nodes v w → v2.trace ≡ v.trace ++ (input_item n input ++ map (λ o. item.Output n o) (event (w.state n)).outputs)
  trace_shown w sh = h.trace ∙ ap (λ os. v.trace ++ (input_item n input ++ map (λ o. item.Output n o) os)) (outputs_shown w sh)

  was_state : IsSoundState (x.sound n) x.spent v.taken stood.0
  was_state = of_some (IsSoundState (x.sound n) x.spent v.taken) (slice_get v.states n) stood.0 stood.1 (h.was.states n)

  was_modest : IsModest x.meaning.nodes MAX_SENDS (x.sound n) x.spent stood.0 (event stood.0)
  was_modest = h.modest stood.0 was_state.keeps

  sends_were : gathered.sends ≡ (event stood.0).sends
  sends_were = of_some (λ s. gathered.sends ≡ (event s).sends) (slice_get v.states n) stood.0 stood.1 h.happens.sends

  sound_here : IsSoundState (x.sound n) x.spent v2.taken (event stood.0).state
  sound_here = record {
    keeps = of_some (x.sound n) (slice_get v2.states n) (event stood.0).state (stands_after stood.0 stood.1 n refl) h.kept;
    little = let a = was_modest.cheap in let b = was_state.little in let c = h.taken in omega arith;
  }

  outputs_were : gathered.outputs ≡ (event stood.0).outputs
  outputs_were = of_some (λ s. gathered.outputs ≡ (event s).outputs) (slice_get v.states n) stood.0 stood.1 h.happens.outputs

  -- clients see at most one input, and the outputs that an event may have
  pub trace_grows : GrowsBy (length v.trace) (length v2.trace)
  trace_grows =
      let given : List (Item I O) = input_item n input in
      let outputs : List (Item I O) = map (λ o. item.Output n o) gathered.outputs in
      let size = ap length h.trace ∙ length-append v.trace (given ++ outputs) in
      let parts = length-append given outputs in
      let seen : length outputs ≡ length gathered.outputs = length-map gathered.outputs (λ o. item.Output n o) in
      let one : length given ≤ 1 = input_once O n input in
      let few : length gathered.outputs ≤ MAX_OUTPUTS + x.spent stood.0 = subst (λ xs. length xs ≤ MAX_OUTPUTS + x.spent stood.0) (sym outputs_were) (was_modest.few_outputs sound_here.keeps) in
      let little = was_state.little in let steps = h.few in
      record { least = omega arith; most = omega arith }

  state_later : (k : ℕ) (s : S) → IsSoundState (x.sound k) x.spent v.taken s → IsSoundState (x.sound k) x.spent v2.taken s
  state_later k s p = record { keeps = p.keeps; little = let a = p.little in let c = h.taken in omega arith }

  states_sound : (k : ℕ) → IfSome (slice_get v2.states k) (IsSoundState (x.sound k) x.spent v2.taken)
  states_sound k = elim (cases_eq k n) [
    | inl e ↦ subst (λ j. IfSome (slice_get v2.states j) (IsSoundState (x.sound j) x.spent v2.taken)) (sym e) (some_holds (IsSoundState (x.sound n) x.spent v2.taken) (slice_get v2.states n) (event stood.0).state (stands_after stood.0 stood.1 n refl) sound_here)
    | inr ne ↦ subst (λ o. IfSome o (IsSoundState (x.sound k) x.spent v2.taken)) (sym (stays k ne)) (IfSome_then (slice_get v.states k) (h.was.states k) (state_later k))
  ]

  pub sound_after : ((k : ℕ) → IfSome (slice_get base k) (IsSoundPacket x.meaning.nodes v2.taken)) → length base ≡ length v.packets → IsSound x v2
  sound_after each len = record {
    nodes = ap length h.happens.put ∙ (length-change_at (λ s. (event s).state) v.states n ∙ h.was.nodes);
    states = states_sound;
    packets = subst (λ ps. (k : ℕ) → IfSome (slice_get ps k) (IsSoundPacket x.meaning.nodes v2.taken)) (sym h.packets)
        (each-append (IsSoundPacket x.meaning.nodes v2.taken) base (map (held_sent n) gathered.sends) each
        (each_sent x.meaning.nodes v2.taken n h.node (let c = h.taken in omega arith) gathered.sends (subst (λ xs. AreSentBelow x.meaning.nodes xs) (sym sends_were) was_modest.to_nodes)));
    few_packets =
        let a : length v2.packets ≡ length base + length gathered.sends = ap length h.packets ∙ (length-append base (map (held_sent n) gathered.sends) ∙ ap (λ l. length base + l) (length-map gathered.sends (held_sent n))) in
        let b : length gathered.sends ≤ MAX_SENDS = subst (λ xs. length xs ≤ MAX_SENDS) (sym sends_were) was_modest.few in
        let c = h.taken in let d = h.was.few_packets in omega arith;
    few_steps = let c = h.taken in let d = h.few in omega arith;
    in_order = λ keeps. subst IsInOrder (sym h.packets) (order-sent base n gathered.sends (h.in_order (subst (λ net. keeps_order net ≡ true) h.same_net keeps)));
  }

module _ {H S I O M : Type 0} (x : Promises S I O M) (v v2 : WorldView H S I O M) where
  -- an event that the network does nothing for
  alone : (n : ℕ) (input : Option I) (event : S → Effect S O M) (gathered : Gathered O M) → Occurs x v v2 n input event gathered v.packets → IsSound x v2
  alone n input event gathered h = sound_after x v v2 n input event gathered v.packets h (each_later x.meaning.nodes v.taken v2.taken (let c = h.taken in omega arith) v.packets h.was.packets) refl

  pub takes_in : (n : ℕ) (i : I) (gathered : Gathered O M) → Occurs x v v2 n (Some i) (λ s. x.meaning.input n s i) gathered v.packets → Takes x (step.In n i) v v2
  takes_in n i gathered h = record {
    leads = λ w sh. record {
      states = states_shown x v v2 n (Some i) (λ s. x.meaning.input n s i) gathered v.packets h w sh;
      up = sh.up;
      packets = packets_shown x v v2 n (Some i) (λ s. x.meaning.input n s i) gathered v.packets h w sh w.packets sh.packets;
    };
    sees = λ w sh. trace_shown x v v2 n (Some i) (λ s. x.meaning.input n s i) gathered v.packets h w sh;
    grows = trace_grows x v v2 n (Some i) (λ s. x.meaning.input n s i) gathered v.packets h;
    counts = h.taken;
    keeps = alone n (Some i) (λ s. x.meaning.input n s i) gathered h;
  }

  pub takes_tick : (n : ℕ) (gathered : Gathered O M) → Occurs x v v2 n None (λ s. x.meaning.timeout n s) gathered v.packets → Takes x (step.Tick n) v v2
  takes_tick n gathered h = record {
    leads = λ w sh. record {
      states = states_shown x v v2 n None (λ s. x.meaning.timeout n s) gathered v.packets h w sh;
      up = sh.up;
      packets = packets_shown x v v2 n None (λ s. x.meaning.timeout n s) gathered v.packets h w sh w.packets sh.packets;
    };
    sees = λ w sh. trace_shown x v v2 n None (λ s. x.meaning.timeout n s) gathered v.packets h w sh;
    grows = trace_grows x v v2 n None (λ s. x.meaning.timeout n s) gathered v.packets h;
    counts = h.taken;
    keeps = alone n None (λ s. x.meaning.timeout n s) gathered h;
  }

  module _ (k : ℕ) (p : Shown M) (c : M) (gathered : Gathered O M) (sent : slice_get v.packets k ≡ Some p) (copy : 0 < p.copies) (content : p.content ≡ Some c) (h : Occurs x v v2 p.destination None (λ s. x.meaning.message p.destination s p.source c) gathered (change_at held_less k v.packets)) where
    abbrev stood_for : Packet M
    stood_for = record { source = p.source; destination = p.destination; content = c; copies = p.copies }

    delivered : (w : World S S M) → Shows x.meaning.nodes v w → slice_get w.packets k ≡ Some stood_for
    delivered w sh = packet_of_shown p c (slice_get w.packets k) copy content (subst (λ o. ShowsAt o (slice_get w.packets k)) sent (sh.packets k))

    less_shown : (w : World S S M) → Shows x.meaning.nodes v w → ShowsAll (change_at held_less k v.packets) (change_at one_less k w.packets)
    less_shown w sh = shown-change_at held_less one_less (λ l. 0 < l) shown_less v.packets w.packets k (subst (λ o. 0 < held_copies o) (sym sent) copy) sh.packets

    leads_on : (w : World S S M) → Shows x.meaning.nodes v w → Shows x.meaning.nodes v2 (after_event (with_packets w (change_at one_less k w.packets)) (delivery x.meaning w (Some stood_for)))
    leads_on w sh = record {
      states = states_shown x v v2 p.destination None (λ s. x.meaning.message p.destination s p.source c) gathered (change_at held_less k v.packets) h w sh;
      up = sh.up;
      packets = packets_shown x v v2 p.destination None (λ s. x.meaning.message p.destination s p.source c) gathered (change_at held_less k v.packets) h w sh (change_at one_less k w.packets) (less_shown w sh);
    }

    less_sounds : (j : ℕ) → IfSome (slice_get (change_at held_less k v.packets) j) (IsSoundPacket x.meaning.nodes v2.taken)
    less_sounds =
        let each : (j : ℕ) → IfSome (slice_get v.packets j) (IsSoundPacket x.meaning.nodes v2.taken) = each_later x.meaning.nodes v.taken v2.taken (let t = h.taken in omega arith) v.packets h.was.packets in
        each-change_at (IsSoundPacket x.meaning.nodes v2.taken) held_less v.packets k each (IfSome_then (slice_get v.packets k) (each k) (less_sound x.meaning.nodes v2.taken))

    pub takes_deliver : Takes x (step.Deliver k) v v2
    takes_deliver = record {
      leads = λ w sh. subst (λ o. Shows x.meaning.nodes v2 (after_event (with_packets w (change_at one_less k w.packets)) (delivery x.meaning w o))) (sym (delivered w sh)) (leads_on w sh);
      sees = λ w sh. subst (λ o. v2.trace ≡ v.trace ++ items_of_event (delivery x.meaning w o)) (sym (delivered w sh)) (trace_shown x v v2 p.destination None (λ s. x.meaning.message p.destination s p.source c) gathered (change_at held_less k v.packets) h w sh);
      grows = trace_grows x v v2 p.destination None (λ s. x.meaning.message p.destination s p.source c) gathered (change_at held_less k v.packets) h;
      counts = h.taken;
      keeps = sound_after x v v2 p.destination None (λ s. x.meaning.message p.destination s p.source c) gathered (change_at held_less k v.packets) h less_sounds (length-change_at held_less v.packets k);
    }

  -- a step in which no event happens: a state and a packet are as before, or sound after it
  pub sound_quiet : IsSound x v → v.taken < MAX_STEPS → v2.taken ≡ v.taken + 1
      → length v2.states ≡ length v.states → ((n : ℕ) → IfSome (slice_get v2.states n) (IsSoundState (x.sound n) x.spent v2.taken))
      → length v2.packets ≡ length v.packets → ((k : ℕ) → IfSome (slice_get v2.packets k) (IsSoundPacket x.meaning.nodes v2.taken))
      → (keeps_order v2.net ≡ true → IsInOrder v2.packets) → IsSound x v2
  sound_quiet was few taken same_nodes states same_packets packets in_order = record {
    nodes = same_nodes ∙ was.nodes;
    states = states;
    packets = packets;
    few_packets = let b = was.few_packets in omega arith;
    few_steps = omega arith;
    in_order = in_order;
  }

  pub each_state_later : IsSound x v → v.taken ≤ v2.taken → v2.states ≡ v.states → (n : ℕ) → IfSome (slice_get v2.states n) (IsSoundState (x.sound n) x.spent v2.taken)
  each_state_later was le states n =
      subst (λ xs. IfSome (slice_get xs n) (IsSoundState (x.sound n) x.spent v2.taken)) (sym states)
      (IfSome_then (slice_get v.states n) (was.states n) (λ (s : S) (p : IsSoundState (x.sound n) x.spent v.taken s). record { keeps = p.keeps; little = let a = p.little in omega arith }))

  -- a step that changes how many copies of packet k are in flight, and nothing else, where the network keeps no order
  module _ (s : Step I) (f : Shown M → Shown M) (g : Packet M → Packet M) (k : ℕ) (copy : 0 < held_copies (slice_get v.packets k)) (was : IsSound x v) (few : v.taken < MAX_STEPS)
      (states : v2.states ≡ v.states) (packets : v2.packets ≡ change_at f k v.packets) (trace : v2.trace ≡ v.trace) (taken : v2.taken ≡ v.taken + 1) (free : keeps_order v2.net ≡ false)
      (leads_to : (w : World S S M) → next x.meaning no_recovery w s ≡ with_packets w (change_at g k w.packets)) (silent : (w : World S S M) → items_of x.meaning w s ≡ [])
      (shows : (p : Shown M) (q : Packet M) → 0 < p.copies → ShowsPacket p q → ShowsPacket (f p) (g q)) (sounds : IfSome (slice_get v.packets k) (λ p. IsSoundPacket x.meaning.nodes (v.taken + 1) (f p))) where
    pub takes_copies : Takes x s v v2
    takes_copies = record {
      leads = λ w sh. subst (Shows x.meaning.nodes v2) (sym (leads_to w)) (record {
        states = λ n lt. ap (λ xs. slice_get xs n) states ∙ sh.states n lt;
        up = sh.up;
        packets = subst (λ ps. ShowsAll ps (change_at g k w.packets)) (sym packets) (shown-change_at f g (λ l. 0 < l) shows v.packets w.packets k copy sh.packets);
      });
      sees = λ w sh. trace ∙ (sym (append-nil v.trace) ∙ ap (λ xs. v.trace ++ xs) (sym (silent w)));
      grows = let size = ap length trace in record { least = omega arith; most = omega arith };
      counts = taken;
      keeps = sound_quiet was few taken (ap length states) (each_state_later was (omega arith) states) (ap length packets ∙ length-change_at f v.packets k)
          (subst (λ ps. (j : ℕ) → IfSome (slice_get ps j) (IsSoundPacket x.meaning.nodes v2.taken)) (sym packets)
          (each-change_at (IsSoundPacket x.meaning.nodes v2.taken) f v.packets k (each_later x.meaning.nodes v.taken v2.taken (omega arith) v.packets was.packets)
          (subst (λ t. IfSome (slice_get v.packets k) (λ p. IsSoundPacket x.meaning.nodes t (f p))) (sym taken) sounds)))
          (λ keeps. absurd (false≢true (sym free ∙ keeps)));
    }

  module _ (k : ℕ) (copy : 0 < held_copies (slice_get v.packets k)) (was : IsSound x v) (few : v.taken < MAX_STEPS) (states : v2.states ≡ v.states) (trace : v2.trace ≡ v.trace) (taken : v2.taken ≡ v.taken + 1) (free : keeps_order v2.net ≡ false) where
    pub takes_dup : v2.packets ≡ change_at held_more k v.packets → Takes x (step.Dup k) v v2
    takes_dup packets = takes_copies (step.Dup k) held_more one_more k copy was few states packets trace taken free (λ w. refl) (λ w. refl) shown_more (more_sound x.meaning.nodes v.taken (slice_get v.packets k) copy (was.packets k))

    pub takes_lose : v2.packets ≡ change_at held_less k v.packets → Takes x (step.Lose k) v v2
    takes_lose packets =
        let each : (j : ℕ) → IfSome (slice_get v.packets j) (IsSoundPacket x.meaning.nodes (v.taken + 1)) = each_later x.meaning.nodes v.taken (v.taken + 1) (omega arith) v.packets was.packets in
        takes_copies (step.Lose k) held_less one_less k copy was few states packets trace taken free (λ w. refl) (λ w. refl) shown_less (IfSome_then (slice_get v.packets k) (each k) (less_sound x.meaning.nodes (v.taken + 1)))

-- each node can take an event while steps are left
pub ready_there : {H S I O M : Type 0} (x : Promises S I O M) (v : WorldView H S I O M) → IsSound x v → v.taken < MAX_STEPS → (n : ℕ) → IfSome (slice_get v.states n) (IsReady (x.sound n) x.spent)
ready_there x v was few n =
    IfSome_then (slice_get v.states n) (was.states n) (λ s (p : IsSoundState (x.sound n) x.spent v.taken s). record { keeps = p.keeps; little = let a = p.little in omega arith })

-- the trace after an input and its outputs
pub trace_in : {I O : Type 0} (n : ℕ) (i j : I) (t t0 t1 t2 outs : List (Item I O)) → t2 ≡ t1 ++ outs → t1 ≡ t0 ++ item.Input n j ∷ [] → j ≡ i → t0 ≡ t → t2 ≡ t ++ (input_item n (Some i) ++ outs)
trace_in n i j t t0 t1 t2 outs e1 e2 e3 e4 =
    e1 ∙ (ap (λ x. x ++ outs) (e2 ∙ (ap (λ x. x ++ item.Input n j ∷ []) e4 ∙ ap (λ x. t ++ item.Input n x ∷ []) e3)) ∙ append_assoc t (item.Input n i ∷ []) outs)

pub first_sound : {S I O M : Type 0} (x : Promises S I O M) (states : List S) → length states ≡ x.meaning.nodes → ((n : ℕ) → n < x.meaning.nodes → slice_get states n ≡ Some (x.meaning.init n)) → ((n : ℕ) → n < x.meaning.nodes → x.sound n (x.meaning.init n)) → ((n : ℕ) → n < x.meaning.nodes → x.spent (x.meaning.init n) ≡ 0) → (n : ℕ) → IfSome (slice_get states n) (IsSoundState (x.sound n) x.spent 0)
first_sound x states len first ok fresh n = elim (cases_lt n x.meaning.nodes) [
  | inl lt ↦ some_holds (IsSoundState (x.sound n) x.spent 0) (slice_get states n) (x.meaning.init n) (first n lt) (record { keeps = ok n lt; little = let z = fresh n lt in omega arith })
  | inr ge ↦ MatchOption-from_none (slice_get states n) (IsSoundState (x.sound n) x.spent 0) (slice_get_past states n (omega arith))
]

-- a network on which packets are copied or lost keeps no order
pub no_order-dup : (net : Net) → has_kind net kind.Dup ≡ true → keeps_order net ≡ false
no_order-dup net.One has = refl
no_order-dup net.Bag has = refl
no_order-dup net.Dup has = refl
no_order-dup net.Fail has = refl
no_order-dup net.Ord has = absurd (false≢true has)
no_order-dup net.Loss has = refl
no_order-dup net.Acts has = refl

pub no_order-lose : (net : Net) → has_kind net kind.Lose ≡ true → keeps_order net ≡ false
no_order-lose net.One has = refl
no_order-lose net.Bag has = refl
no_order-lose net.Dup has = refl
no_order-lose net.Fail has = refl
no_order-lose net.Ord has = absurd (false≢true has)
no_order-lose net.Loss has = refl
no_order-lose net.Acts has = refl

module _ {S K I O M : Type 0} (net : Net) (m : Meaning S I O M) (w : World S K M) (k : ℕ) (more : 0 < copies w k) where
  pub dup_not_refused : has_kind net kind.Dup ≡ true → refusal_of net m w (step.Dup k) ≡ None
  dup_not_refused has = let l : nat_lt 0 (copies w k) ≡ true = lt-ltb 0 (copies w k) more in rw (has, l, no_order-dup net has) refl

  pub lose_not_refused : has_kind net kind.Lose ≡ true → refusal_of net m w (step.Lose k) ≡ None
  lose_not_refused has = let l : nat_lt 0 (copies w k) ≡ true = lt-ltb 0 (copies w k) more in rw (has, l, no_order-lose net has) refl

-- an event that sends no more than these handlers may sends no more than any may
pub modest_most : {S O M : Type 0} {nodes sends : ℕ} {sound : S → Type 0} {spent : S → ℕ} {before : S} {e : Effect S O M} → sends ≤ MAX_SENDS → IsModest nodes sends sound spent before e → IsModest nodes MAX_SENDS sound spent before e
modest_most few modest = record { few = let a = modest.few in omega arith; to_nodes = modest.to_nodes; cheap = modest.cheap; few_outputs = modest.few_outputs }
