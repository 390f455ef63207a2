-- Of the schedules that a network which copies and reorders packets allows for handlers whose messages come in order: each step of the image
-- is a step of the schedule, or delivers a packet that was sent no later than one which the schedule delivers.
use Rattle.std.specs.Prelude.{◌≡◌, ℕ, zero, suc, ◌≤◌, Bool, true, false, List, [], ◌∷◌, ◌++◌, length, Option, Some, None, option_map, cond, slice_get, ◌==◌, refl}
use Rattle.std.specs.FinMap as finite
use Rattle.std.specs.FinMap.{get-empty}
use Rattle.std.specs.Ordering.{nat_cmp}
use Rattle.std.proofs.Common.{ap, arith, sym, subst, ◌∙◌, inl, inr, length-append}
use Rattle.std.proofs.lemmas.Bool.{eq-eqb}
use Rattle.std.proofs.lemmas.Option.{none-some, same_Some}
use Rattle.handler_trait.specs.Handling.{Effect, Meaning, Recovery}
use Rattle.vst_base.specs.Nets.{Copied, Delivered, Fate, Lost, view_of}
use Rattle.vst_base.specs.declared.net.Net.TheVariants as net
use Rattle.vst_base.specs.declared.seq.SeqMsg.{SeqMsg}
use Rattle.vst_base.specs.declared.step.Step.{Step}
use Rattle.vst_base.specs.declared.step.Step.TheVariants as step
use Rattle.vst_base.specs.declared.step.StepRefusal.TheVariants as refusal
use Rattle.net_semantics.specs.Runs.{IsAllowed, first_refused_from, no_recovery}
use Rattle.net_semantics.specs.Steps.{after_event, copied, delivery, next, refusal_of, with_packets}
use Rattle.net_semantics.specs.Worlds.{Packet, World, change_at, first_world, one_less, sent_by}
use Rattle.fifo_xform.specs.Peers.{Peers, counting, holding, is_early, passing, peer_of, ready}
use Rattle.fifo_xform.specs.PeersLaws.{ready-is}
use Rattle.fifo_xform.specs.Fifo.{FifoState, counted, fifo, gives, gives_nothing, on_message, on_timeout}
use Rattle.fifo_xform.specs.Image.{fifo_image, fifo_image_from, given_by_arrival, given_by_tick, gives_packet, goes_with, image_of_step, sent_with, stays_in}
use Rattle.fifo_xform.proofs.PeerFacts.{held-counting, held-holding, held-passing}
use Rattle.trace_check.specs.Spelled.{event_count, events_in}
use Rattle.trace_check.proofs.Eaches.{either}
use Rattle.trace_check.proofs.Events.{events-append, events-few}
use Rattle.trace_check.proofs.Runs.{not-refused, put-each}
use Rattle.lists.specs.Each.{Each, each_append}

module _ {M : Type 0} where
  -- copies that come and go change nothing of where a packet is found
  goes-copied : (fate : Fate) (a d x : ℕ) (p : Packet (SeqMsg M)) → goes_with a d x (copied fate p) ≡ goes_with a d x p
  goes-copied Delivered a d x p = refl
  goes-copied Copied a d x p = refl
  goes-copied Lost a d x p = refl

  found-copied : (fate : Fate) (a d x k : ℕ) (ps : List (Packet (SeqMsg M))) → sent_with a d x (change_at (copied fate) k ps) ≡ sent_with a d x ps
  found-copied fate a d x k [] = refl
  found-copied fate a d x zero (p ∷ ps) = ap (λ b. cond b (Some 0) (option_map suc (sent_with a d x ps))) (goes-copied fate a d x p)
  found-copied fate a d x (suc k) (p ∷ ps) = ap (λ o. cond (goes_with a d x p) (Some 0) (option_map suc o)) (found-copied fate a d x k ps)

  -- nor do packets that are sent later
  found-more : (a d x k : ℕ) (ps qs : List (Packet (SeqMsg M))) → sent_with a d x ps ≡ Some k → sent_with a d x (ps ++ qs) ≡ Some k
  found-more a d x k [] qs e = absurd (none-some k e)
  found-more a d x k (p ∷ ps) qs e = by (goes_with a d x p) (sent_with a d x ps) (λ j is. found-more a d x j ps qs is) e
    where
      by : (b : Bool) (o : Option ℕ) → ((j : ℕ) → o ≡ Some j → sent_with a d x (ps ++ qs) ≡ Some j) → cond b (Some 0) (option_map suc o) ≡ Some k
          → cond b (Some 0) (option_map suc (sent_with a d x (ps ++ qs))) ≡ Some k
      by true o more e = e
      by false None more e = absurd (none-some k e)
      by false (Some j) more e = ap (λ o. option_map suc o) (more j refl) ∙ e

  -- by its ends and its number a packet is found at its place, or one before it is
  found-by : (k : ℕ) (ps : List (Packet (SeqMsg M))) (p : Packet (SeqMsg M)) → slice_get ps k ≡ Some p
      → (j : ℕ) × (j ≤ k) × (sent_with p.source p.destination p.content.number ps ≡ Some j)
  found-by k [] p there = absurd (none-some p there)
  found-by zero (q ∷ ps) p there =
      let goes : goes_with p.source p.destination p.content.number q ≡ true =
      ap (goes_with p.source p.destination p.content.number) (same_Some q p there)
      ∙ rw (eq-eqb p.source p.source refl, eq-eqb p.destination p.destination refl, eq-eqb p.content.number p.content.number refl) refl in
      (0, omega arith, ap (λ b. cond b (Some 0) (option_map suc (sent_with p.source p.destination p.content.number ps))) goes)
  found-by (suc k) (q ∷ ps) p there = by (goes_with p.source p.destination p.content.number q) (sent_with p.source p.destination p.content.number ps) (found-by k ps p there)
    where
      by : (b : Bool) (o : Option ℕ) → (j : ℕ) × (j ≤ k) × (o ≡ Some j) → (j : ℕ) × (j ≤ suc k) × (cond b (Some 0) (option_map suc o) ≡ Some j)
      by true o later = (0, omega arith, refl)
      by false o later = let below = later.1 in (suc later.0, omega (arith, below), ap (λ o. option_map suc o) later.2)

  -- what is held stays so when packets are numbered
  held-counted : (ps : Peers M) (ss : List (ℕ × M)) (a x : ℕ) (c : M) → finite.get (peer_of (counted ps ss) a).held x ≡ Some c → finite.get (peer_of ps a).held x ≡ Some c
  held-counted ps [] a x c e = e
  held-counted ps (s ∷ ss) a x c e = ap (λ (h : finite.FinMap nat_cmp M). finite.get h x) (sym (held-counting ps s.0 a)) ∙ held-counted (counting ps s.0) ss a x c e

module _ {S I O M : Type 0} (m : Meaning S I O M) (P : Step I → Type 0) (earlier : (j k : ℕ) → j ≤ k → P (step.Deliver k) → P (step.Deliver j)) where
  abbrev W : Type 0
  W = World (FifoState S M) (FifoState S M) (SeqMsg M)

  abbrev r : Recovery (FifoState S M) (FifoState S M)
  r = no_recovery

  -- with these ends and this number a packet is found, whose delivery is such a step
  abbrev IsFound : List (Packet (SeqMsg M)) → ℕ → ℕ → ℕ → Type 0
  IsFound ps a d x = (k : ℕ) × P (step.Deliver k) × (sent_with a d x ps ≡ Some k)

  -- so it is with each content that is held at a node, and at each node
  abbrev HoldsFound : List (Packet (SeqMsg M)) → ℕ → Peers M → Type 0
  HoldsFound ps n peers = (a x : ℕ) (c : M) → finite.get (peer_of peers a).held x ≡ Some c → IsFound ps a n x

  abbrev HoldFound : W → Type 0
  HoldFound w = (n : ℕ) → HoldsFound w.packets n (w.state n).peers

  first-found : HoldFound (first_world (fifo m))
  first-found n a x c e = absurd (none-some c (sym (get-empty nat_cmp x) ∙ e))

  found-after : (w : W) (n : ℕ) (input : Option I) (e : Effect (FifoState S M) O (SeqMsg M)) → HoldFound w → HoldsFound w.packets n e.state.peers
      → HoldFound (after_event w (Some (record { node = n; input = input; effect = e })))
  found-after w n input e before here k =
      put-each (λ j s. HoldsFound (w.packets ++ sent_by n e.sends) j s.peers) w.state n e.state (more n e.state.peers here) k (more k (w.state k).peers (before k))
    where
      more : (j : ℕ) (peers : Peers M) → HoldsFound w.packets j peers → HoldsFound (w.packets ++ sent_by n e.sends) j peers
      more j peers holds a x c is = let was = holds a x c is in (was.0, was.1, found-more a j x was.0 w.packets (sent_by n e.sends) was.2)

  found-with : (w : W) (fate : Fate) (k : ℕ) → HoldFound w → HoldFound (with_packets w (change_at (copied fate) k w.packets))
  found-with w fate k before n a x c is = let was = before n a x c is in (was.0, was.1, found-copied fate a n x k w.packets ∙ was.2)

  given-found : (w : W) (n from : ℕ) (content : M) → HoldFound w → HoldsFound w.packets n (gives m n (w.state n) from content).state.peers
  given-found w n from content before a x c is =
      let passed = held-counted (passing (w.state n).peers from) (m.message n (w.state n).inner from content).sends a x c is in
      before n a x c (held-passing (w.state n).peers from a x c passed)

  tick-found : (w : W) (n : ℕ) (o : Option (ℕ × M)) → HoldFound w → HoldsFound w.packets n (on_timeout m n (w.state n) o).state.peers
  tick-found w n None before a x c is = before n a x c (held-counted (w.state n).peers (m.timeout n (w.state n).inner).sends a x c is)
  tick-found w n (Some held) before a x c is = given-found w n held.0 held.1 before a x c is

  -- a packet that arrives is given, or is held and was found, or nothing comes of it
  arrival-found : (w : W) (k : ℕ) (p : Packet (SeqMsg M)) → slice_get w.packets k ≡ Some p → P (step.Deliver k) → HoldFound w
      → HoldsFound w.packets p.destination (on_message m p.destination (w.state p.destination) p.source p.content).state.peers
  arrival-found w k p there has before =
      let s = w.state p.destination in
      let early = is_early (peer_of s.peers p.source) p.content.number in
      let held = holding s.peers p.source p.content.number p.content.inner in
      either (λ (e : Effect (FifoState S M) O (SeqMsg M)). HoldsFound w.packets p.destination e.state.peers) (p.content.number == (peer_of s.peers p.source).expected)
      (gives m p.destination s p.source p.content.inner) (gives_nothing s.inner (cond early held s.peers)) (given-found w p.destination p.source p.content.inner before)
      (either (HoldsFound w.packets p.destination) early held s.peers held-found (before p.destination))
    where
      held-found : HoldsFound w.packets p.destination (holding (w.state p.destination).peers p.source p.content.number p.content.inner)
      held-found a x c is = elim (held-holding (w.state p.destination).peers p.source a p.content.number p.content.inner x c is) [
        | inl old ↦ before p.destination a x c old
        | inr new ↦
            let at = found-by k w.packets p there in
            let found : IsFound w.packets p.source p.destination p.content.number = (at.0, earlier at.0 k at.1 has, at.2) in
            subst (λ (b : ℕ). IsFound w.packets b p.destination x) (sym new.0) (subst (λ (y : ℕ). IsFound w.packets p.source p.destination y) (sym new.1) found)
      ]

  delivered-found : (w : W) (k : ℕ) (o : Option (Packet (SeqMsg M))) → slice_get w.packets k ≡ o → P (step.Deliver k) → HoldFound w
      → HoldFound (after_event {I = I} (with_packets w (change_at one_less k w.packets)) (delivery (fifo m) w o))
  delivered-found w k None there has before = found-with w Delivered k before
  delivered-found w k (Some p) there has before =
      let here = arrival-found w k p there has before in
      found-after (with_packets w (change_at one_less k w.packets)) p.destination None (on_message m p.destination (w.state p.destination) p.source p.content) (found-with w Delivered k before)
      (λ a x c is. let was = here a x c is in (was.0, was.1, found-copied Delivered a p.destination x k w.packets ∙ was.2))

  step-found : (w : W) (s : Step I) → refusal_of net.Dup (fifo m) w s ≡ None → P s → HoldFound w → HoldFound (next (fifo m) r w s)
  step-found w (step.In n i) allowed has before =
      let e = m.input n (w.state n).inner i in
      found-after w n (Some i) ((fifo m).input n (w.state n) i) before (λ a x c is. before n a x c (held-counted (w.state n).peers e.sends a x c is))
  step-found w (step.Tick n) allowed has before = found-after w n None ((fifo m).timeout n (w.state n)) before (tick-found w n (ready m.nodes (w.state n).peers) before)
  step-found w (step.Deliver k) allowed has before = delivered-found w k (slice_get w.packets k) refl has before
  step-found w (step.Dup k) allowed has before = found-with w Copied k before
  step-found w (step.Lose k) allowed has before = let clash : Some refusal.NotThisNet ≡ None = allowed in cc
  step-found w (step.Crash n) allowed has before = let clash : Some refusal.NotThisNet ≡ None = allowed in cc
  step-found w (step.Reboot n) allowed has before = let clash : Some refusal.NotThisNet ≡ None = allowed in cc

  -- what a step is in the image
  tick-image : (w : W) (n : ℕ) (o : Option (ℕ × M)) → ready m.nodes (w.state n).peers ≡ o → P (step.Tick n) → HoldFound w → Each P (image_of_step (step.Tick n) (given_by_tick w n o))
  tick-image w n None is has before = (has, tt)
  tick-image w n (Some held) is has before =
      let found = before n held.0 (peer_of (w.state n).peers held.0).expected held.1 (ready-is m.nodes (w.state n).peers held.0 held.1 is).held in
      subst (λ o. Each P (image_of_step (step.Tick n) o)) (sym found.2) (found.1, tt)

  arrival-image : (w : W) (k : ℕ) (o : Option (Packet (SeqMsg M))) → P (step.Deliver k) → Each P (image_of_step (step.Deliver k) (given_by_arrival w k o))
  arrival-image w k None has = tt
  arrival-image w k (Some p) has =
      either (λ o. Each P (image_of_step (step.Deliver k) o)) (p.content.number == (peer_of (w.state p.destination).peers p.source).expected) (Some k) None (has, tt) tt

  step-image : (w : W) (s : Step I) → P s → HoldFound w → Each P (image_of_step s (gives_packet m.nodes w s))
  step-image w (step.In n i) has before = (has, tt)
  step-image w (step.Tick n) has before = tick-image w n (ready m.nodes (w.state n).peers) refl has before
  step-image w (step.Deliver k) has before = arrival-image w k (slice_get w.packets k) has
  step-image w (step.Dup k) has before = tt
  step-image w (step.Lose k) has before = tt
  step-image w (step.Crash n) has before = tt
  step-image w (step.Reboot n) has before = tt

  image-each : (w : W) (ss : List (Step I)) → HoldFound w → first_refused_from net.Dup (fifo m) r w ss ≡ None → Each P ss → Each P (fifo_image_from m r w ss)
  image-each w [] before allowed all = tt
  image-each w (s ∷ ss) before allowed all =
      let parts = not-refused (refusal_of net.Dup (fifo m) w s) (first_refused_from net.Dup (fifo m) r (next (fifo m) r w s) ss) allowed in
      each_append P (image_of_step s (gives_packet m.nodes w s)) (fifo_image_from m r (next (fifo m) r w s) ss) (step-image w s all.0 before)
      (image-each (next (fifo m) r w s) ss (step-found w s parts.0 all.0 before) parts.1 all.1)

  -- what holds of each step, and of the delivery of an earlier packet where of that of a later one, holds of each step of the image
  pub ordered-each : (ss : List (Step I)) → IsAllowed net.Dup (fifo m) r ss → Each P ss → Each P (fifo_image m ss)
  ordered-each ss allowed all = image-each (first_world (fifo m)) ss first-found allowed all

-- and the image has no more steps
module _ {S I O M : Type 0} (m : Meaning S I O M) where
  one-at-most : (s : Step I) (o : Option ℕ) → length (image_of_step s o) ≤ 1
  one-at-most s None = either (λ ts. length ts ≤ 1) (stays_in (view_of s)) (s ∷ []) [] (omega arith) (omega arith)
  one-at-most s (Some k) = omega arith

  few-from : (r : Recovery (FifoState S M) (FifoState S M)) (w : World (FifoState S M) (FifoState S M) (SeqMsg M)) (ss : List (Step I)) → length (fifo_image_from m r w ss) ≤ length ss
  few-from r w [] = omega arith
  few-from r w (s ∷ ss) =
      let first = one-at-most s (gives_packet m.nodes w s) in
      let rest = few-from r (next (fifo m) r w s) ss in
      omega (arith, first, rest, length-append (image_of_step s (gives_packet m.nodes w s)) (fifo_image_from m r (next (fifo m) r w s) ss))

  pub ordered-few : (ss : List (Step I)) → length (fifo_image m ss) ≤ length ss
  ordered-few ss = few-from no_recovery (first_world (fifo m)) ss

  -- nor more events: what is no event has no step in the image
  step-events : (w : World (FifoState S M) (FifoState S M) (SeqMsg M)) (s : Step I) → events_in (image_of_step s (gives_packet m.nodes w s)) ≤ event_count s
  step-events w (step.In n i) = omega arith
  step-events w (step.Tick n) = let o = gives_packet {I = I} m.nodes w (step.Tick n) in let one = one-at-most (step.Tick n) o in omega (arith, one, events-few {I = I} (image_of_step (step.Tick n) o))
  step-events w (step.Deliver k) = let o = gives_packet {I = I} m.nodes w (step.Deliver k) in let one = one-at-most (step.Deliver k) o in omega (arith, one, events-few {I = I} (image_of_step (step.Deliver k) o))
  step-events w (step.Dup k) = omega arith
  step-events w (step.Lose k) = omega arith
  step-events w (step.Crash n) = omega arith
  step-events w (step.Reboot n) = omega arith

  events-from : (r : Recovery (FifoState S M) (FifoState S M)) (w : World (FifoState S M) (FifoState S M) (SeqMsg M)) (ss : List (Step I)) → events_in (fifo_image_from m r w ss) ≤ events_in ss
  events-from r w [] = omega arith
  events-from r w (s ∷ ss) =
      let first = step-events w s in
      let rest = events-from r (next (fifo m) r w s) ss in
      omega (arith, first, rest, events-append (image_of_step s (gives_packet m.nodes w s)) (fifo_image_from m r (next (fifo m) r w s) ss))

  pub ordered-events : (ss : List (Step I)) → events_in (fifo_image m ss) ≤ events_in ss
  ordered-events ss = events-from no_recovery (first_world (fifo m)) ss
