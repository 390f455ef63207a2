-- Handlers whose messages come in order, on a network that copies and reorders packets, do what the handlers within do on a network of
-- FIFO channels.
use Rattle.std.specs.Prelude.{◌≡◌, ℕ, zero, suc, true, false, List, [], ◌∷◌, ◌++◌, length, Option, Some, None, option_map, cond, slice_get, refl}
use Rattle.std.specs.FinMap.{get-empty}
use Rattle.std.specs.Ordering.{nat_cmp}
use Rattle.std.proofs.Common.{ap, arith, sym, subst, ◌∙◌, inl, inr}
use Rattle.std.proofs.lemmas.List.{append-nil}
use Rattle.std.proofs.lemmas.Bool.{cases_eq, eq-eqb, ne_eqb}
use Rattle.std.proofs.lemmas.Option.{none-some, same_Some}
use Rattle.vst_base.specs.declared.net.Net.TheVariants as net
use Rattle.vst_base.specs.declared.step.Step.{Step}
use Rattle.vst_base.specs.declared.step.Step.TheVariants as step
use Rattle.vst_base.specs.declared.step.StepRefusal.{StepRefusal}
use Rattle.vst_base.specs.declared.step.StepRefusal.TheVariants as refusal
use Rattle.vst_base.specs.declared.seq.SeqMsg.{SeqMsg}
use Rattle.handler_trait.specs.Handling.{Meaning, Effect, Recovery}
use Rattle.net_semantics.specs.Worlds.{World, Packet, first_world, change_at, one_less}
use Rattle.net_semantics.specs.Steps.{next, refusal_of, items_of, items_of_event, event_of, delivery, after_event, with_packets}
use Rattle.net_semantics.specs.Runs.{IsAllowed, first_refused_from, run_from, trace_from, place_and_why}
use Rattle.net_semantics.specs.RunLaws.{later, place_and_why-none, first_refused_from-append, trace_from-append}
use Rattle.fifo_xform.specs.Peers.{Peers, peer_of, ready, is_early, holding}
use Rattle.fifo_xform.specs.PeersLaws.{ready-is}
use Rattle.fifo_xform.specs.Fifo.{FifoState, fifo, gives, gives_nothing, on_timeout}
use Rattle.fifo_xform.specs.Image.{goes_with, sent_with, given_by_arrival, given_by_tick, gives_packet, image_of_step, fifo_image_from}
use Rattle.fifo_xform.proofs.Carried.{bare, bares, WasSent, apart}
use Rattle.fifo_xform.proofs.Steps.{Mirrors, BothTake, TakeAlone, bares-less, bare-at, some-bare, take-in, take-tick, take-dup, find-sent, take-given, take-kept, given_event}

-- the only packet of these ends with this number is found
sent-with : {M : Type 0} (a d x : ℕ) (ps : List (Packet (SeqMsg M))) (k : ℕ) (p : Packet (SeqMsg M)) → slice_get ps k ≡ Some p → p.source ≡ a → p.destination ≡ d → p.content.number ≡ x
    → ((j : ℕ) (q : Packet (SeqMsg M)) → slice_get ps j ≡ Some q → q.source ≡ a → q.destination ≡ d → q.content.number ≡ x → j ≡ k) → sent_with a d x ps ≡ Some k
sent-with a d x [] k p there s t n only = absurd (none-some p there)
sent-with {M} a d x (q ∷ qs) zero p there s t n only =
    let is : q ≡ p = same_Some q p there in
    let goes : goes_with a d x p ≡ true = rw (eq-eqb p.source a s, eq-eqb p.destination d t, eq-eqb p.content.number x n) refl in
    ap (λ (y : Packet (SeqMsg M)). cond (goes_with a d x y) (Some 0) (option_map suc (sent_with a d x qs))) is ∙ ap (λ b. cond b (Some 0) (option_map suc (sent_with a d x qs))) goes
sent-with {M} a d x (q ∷ qs) (suc k) p there s t n only =
    let later_on = sent-with a d x qs k p there s t n (λ j y at_y s2 t2 n2. let e = only (suc j) y at_y s2 t2 n2 in omega (arith, e)) in
    let not_here : goes_with a d x q ≡ false = elim (cases_eq q.source a) [
      | inl same_s ↦ elim (cases_eq q.destination d) [
        | inl same_d ↦ elim (cases_eq q.content.number x) [
          | inl same_n ↦ let e = only 0 q refl same_s same_d same_n in absurd (omega (arith, e))
          | inr ne ↦ rw (eq-eqb q.source a same_s, eq-eqb q.destination d same_d, ne_eqb q.content.number x ne) refl
        ]
        | inr ne ↦ rw (eq-eqb q.source a same_s, ne_eqb q.destination d ne) refl
      ]
      | inr ne ↦ rw (ne_eqb q.source a ne) refl
    ] in
    ap (λ b. cond b (Some 0) (option_map suc (sent_with a d x qs))) not_here ∙ ap (λ o. option_map suc o) later_on

later-none : (n : ℕ) → later n None ≡ None
later-none zero = refl
later-none (suc n) = ap (λ (o : Option (ℕ × StepRefusal)). option_map (λ (p : ℕ × StepRefusal). (suc p.0, p.1)) o) (later-none n)

none-first : (f : Option StepRefusal) → f ≡ None → place_and_why f None ≡ None
none-first f e = rw e refl

module _ {S K K' I O M : Type 0} (m : Meaning S I O M) (r' : Recovery (FifoState S M) K') (r : Recovery S K) where
  -- a step, and what it is in the image
  pub record Follows (w' : World (FifoState S M) K' (SeqMsg M)) (w : World S K M) (s : Step I) (left : List (Step I)) : Type 0 where
    pub allowed : first_refused_from net.Ord m r w left ≡ None
    pub items : items_of (fifo m) w' s ≡ trace_from m r w left
    pub mirrors : Mirrors m r' r (next (fifo m) r' w' s) (run_from m r w left)

  module _ (w' : World (FifoState S M) K' (SeqMsg M)) (w : World S K M) (h : Mirrors m r' r w' w) where
    follows-one : (s t : Step I) → BothTake m r' r w' w s t → Follows w' w s (t ∷ [])
    follows-one s t b = record {
      allowed = none-first (refusal_of net.Ord m w t) b.allowed;
      items = b.items ∙ sym (append-nil (items_of m w t));
      mirrors = b.mirrors;
    }

    follows-none : (s : Step I) → TakeAlone m r' r w' w s → Follows w' w s []
    follows-none s t = record { allowed = refl; items = t.items; mirrors = t.mirrors }

    -- a content that is ready was sent, and is found by its number
    tick-follows : (n : ℕ) → refusal_of {I = I} net.Dup (fifo m) w' (step.Tick n) ≡ None → (o : Option (ℕ × M)) → ready m.nodes (w'.state n).peers ≡ o
        → Follows w' w (step.Tick n) (image_of_step (step.Tick n) (given_by_tick w' n o))
    tick-follows n allowed None is = follows-one (step.Tick n) (step.Tick n) (take-tick m r' r w' w h n allowed (ap (on_timeout m n (w'.state n)) (sym is)))
    tick-follows n allowed (Some held) is =
        let peers : Peers M = (w'.state n).peers in
        let x : ℕ = (peer_of peers held.0).expected in
        let sent : WasSent (bares w'.packets) held.0 n x held.1 = h.kept.held n held.0 x held.1 (ready-is m.nodes peers held.0 held.1 is).held in
        let found = some-bare w'.packets sent.place sent.packet sent.there in
        let p : Packet (SeqMsg M) = found.0 in
        let p_source : p.source ≡ held.0 = ap (λ (y : Packet (SeqMsg M)). y.source) found.2 ∙ sent.source in
        let p_destination : p.destination ≡ n = ap (λ (y : Packet (SeqMsg M)). y.destination) found.2 ∙ sent.destination in
        let p_number : p.content.number ≡ x = ap (λ (y : Packet (SeqMsg M)). y.content.number) found.2 ∙ sent.number in
        let p_says : p.content.inner ≡ held.1 = ap (λ (y : Packet (SeqMsg M)). y.content.inner) found.2 ∙ sent.says in
        let is_next : p.content.number ≡ (peer_of (w'.state p.destination).peers p.source).expected = p_number ∙ (λ i. (peer_of (w'.state (sym p_destination i)).peers (sym p_source i)).expected) in
        let placed : sent_with held.0 n x w'.packets ≡ Some sent.place =
        sent-with held.0 n x w'.packets sent.place p found.1 p_source p_destination p_number
        (λ j q at_q s t number. apart (λ k. (w'.state k).peers) (bares w'.packets) w.packets h.kept j sent.place (bare q) (bare p) (bare-at w'.packets j q at_q) (bare-at w'.packets sent.place p found.1)
        (s ∙ sym p_source) (t ∙ sym p_destination) (number ∙ sym p_number)) in
        let event : event_of {I = I} (fifo m) w' (step.Tick n) ≡ Some (given_event m r' r w' w h sent.place p found.1 is_next) =
        ap (λ o. Some (record { node = n; input = None; effect = on_timeout m n (w'.state n) o })) is
        ∙ (λ i. Some (record { node = sym p_destination i; input = None; effect = gives m (sym p_destination i) (w'.state (sym p_destination i)) (sym p_source i) (sym p_says i) })) in
        subst (λ o. Follows w' w (step.Tick n) (image_of_step (step.Tick n) o)) (sym placed)
        (follows-one (step.Tick n) (step.Deliver sent.place)
        (take-given m r' r w' w h sent.place p found.1 is_next (step.Tick n) w'.packets refl (ap (λ e. after_event w' e) event) (ap (λ e. items_of_event {I = I} e) event)))

    deliver-follows : (k : ℕ) (p : Packet (SeqMsg M)) → slice_get w'.packets k ≡ Some p → Follows w' w (step.Deliver k) (image_of_step (step.Deliver k) (given_by_arrival w' k (Some p)))
    deliver-follows k p there = elim (cases_eq p.content.number (peer_of (w'.state p.destination).peers p.source).expected) [
      | inl is_next ↦
          let event : delivery {I = I} (fifo m) w' (slice_get w'.packets k) ≡ Some (given_event m r' r w' w h k p there is_next) =
          ap (λ o. delivery {I = I} (fifo m) w' o) there
          ∙ ap (λ b. Some (record { node = p.destination; input = None; effect = cond b (gives m p.destination (w'.state p.destination) p.source p.content.inner) (not_given p) })) (eq-eqb _ _ is_next) in
          subst (λ b. Follows w' w (step.Deliver k) (image_of_step (step.Deliver k) (cond b (Some k) None))) (sym (eq-eqb _ _ is_next))
          (follows-one (step.Deliver k) (step.Deliver k)
          (take-given m r' r w' w h k p there is_next (step.Deliver k) (change_at one_less k w'.packets) (bares-less w'.packets k)
          (ap (λ e. after_event (with_packets w' (change_at one_less k w'.packets)) e) event) (ap (λ e. items_of_event {I = I} e) event)))
      | inr ne ↦
          subst (λ b. Follows w' w (step.Deliver k) (image_of_step (step.Deliver k) (cond b (Some k) None))) (sym (ne_eqb _ _ ne))
          (follows-none (step.Deliver k) (take-kept m r' r w' w h k p (is_early (peer_of (w'.state p.destination).peers p.source) p.content.number) there
          (ap (λ b. cond b (gives m p.destination (w'.state p.destination) p.source p.content.inner) (not_given p)) (ne_eqb _ _ ne))))
    ] where
      not_given : Packet (SeqMsg M) → Effect (FifoState S M) O (SeqMsg M)
      not_given p = gives_nothing (w'.state p.destination).inner
          (cond (is_early (peer_of (w'.state p.destination).peers p.source) p.content.number) (holding (w'.state p.destination).peers p.source p.content.number p.content.inner) (w'.state p.destination).peers)

    pub step-follows : (s : Step I) → refusal_of net.Dup (fifo m) w' s ≡ None → Follows w' w s (image_of_step s (gives_packet m.nodes w' s))
    step-follows (step.In n i) allowed = follows-one (step.In n i) (step.In n i) (take-in m r' r w' w h n i allowed)
    step-follows (step.Tick n) allowed = tick-follows n allowed (ready m.nodes (w'.state n).peers) refl
    step-follows (step.Deliver k) allowed =
        let found = find-sent m r' r w' w h k (slice_get w'.packets k) refl allowed in
        subst (λ o. Follows w' w (step.Deliver k) (image_of_step (step.Deliver k) (given_by_arrival w' k o))) (sym found.1) (deliver-follows k found.0 found.1)
    step-follows (step.Dup k) allowed = follows-none (step.Dup k) (take-dup m r' r w' w h k)
    step-follows (step.Lose k) allowed = let clash : Some refusal.NotThisNet ≡ None = allowed in cc
    step-follows (step.Crash n) allowed = let clash : Some refusal.NotThisNet ≡ None = allowed in cc
    step-follows (step.Reboot n) allowed = let clash : Some refusal.NotThisNet ≡ None = allowed in cc

  -- the image is allowed, and its trace is the same
  abbrev IsExplained : World (FifoState S M) K' (SeqMsg M) → World S K M → List (Step I) → List (Step I) → Type 0
  IsExplained w' w ss left = (first_refused_from net.Ord m r w left ≡ None) × (trace_from (fifo m) r' w' ss ≡ trace_from m r w left)

  explained : (ss : List (Step I)) (w' : World (FifoState S M) K' (SeqMsg M)) (w : World S K M) → Mirrors m r' r w' w → first_refused_from net.Dup (fifo m) r' w' ss ≡ None
      → IsExplained w' w ss (fifo_image_from m r' w' ss)
  explained [] w' w h allowed = (refl, refl)
  explained (s ∷ ss) w' w h allowed =
      let both = place_and_why-none (refusal_of net.Dup (fifo m) w' s) (first_refused_from net.Dup (fifo m) r' (next (fifo m) r' w' s) ss) allowed in
      let left : List (Step I) = image_of_step s (gives_packet m.nodes w' s) in
      let more : List (Step I) = fifo_image_from m r' (next (fifo m) r' w' s) ss in
      let here = step-follows w' w h s both.0 in
      let rest = explained ss (next (fifo m) r' w' s) (run_from m r w left) here.mirrors both.1 in (
        first_refused_from-append m r net.Ord w left more here.allowed ∙ (ap (λ o. later (length left) o) rest.0 ∙ later-none (length left)),
        (λ i. here.items i ++ rest.1 i) ∙ sym (trace_from-append m r w left more),
      )

  at-first : Mirrors m r' r (first_world (fifo m)) (first_world m)
  at-first = record {
    up = λ n. refl;
    up' = λ n. refl;
    states = λ n. refl;
    kept = record {
      lengths = refl;
      carried = λ k p q at_p at_q. absurd (none-some p at_p);
      rising = λ j k p1 p2 lt at_j at_k source destination. absurd (none-some p1 at_j);
      below = λ k p at_p. absurd (none-some p at_p);
      held = λ d a x c e. absurd (none-some c (sym (get-empty nat_cmp x) ∙ e));
      known = λ d a. omega arith;
    };
  }

  pub order-is-kept : (ss : List (Step I)) → IsAllowed net.Dup (fifo m) r' ss
      → IsExplained (first_world (fifo m)) (first_world m) ss (fifo_image_from m r' (first_world (fifo m)) ss)
  order-is-kept ss allowed = explained ss (first_world (fifo m)) (first_world m) at-first allowed
