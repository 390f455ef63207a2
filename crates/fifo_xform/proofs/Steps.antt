-- One step of handlers whose messages come in order, on a network that copies and reorders packets, beside the handlers within on one that
-- keeps them in order from node to node.
use Rattle.std.specs.Prelude.{◌≡◌, ℕ, zero, suc, ◌<◌, ◌==◌, ◌&&◌, nat_lt, Bool, true, false, List, [], ◌∷◌, ◌++◌, length, map, take, Option, Some, None, option_map, cond, slice_get, refl}
use Rattle.std.proofs.Common.{ap, arith, sym, subst, ◌∙◌, inl, inr}
use Rattle.std.proofs.lemmas.List.{append-nil, map-append}
use Rattle.std.proofs.lemmas.Bool.{cases_eq, ne_eqb}
use Rattle.std.proofs.lemmas.Option.{none-some, same_Some, slice_get-map}
use Rattle.vst_base.specs.declared.net.Net.TheVariants as net
use Rattle.vst_base.specs.declared.step.Step.{Step}
use Rattle.vst_base.specs.declared.step.Step.TheVariants as step
use Rattle.vst_base.specs.declared.step.Item.TheVariants as item
use Rattle.vst_base.specs.declared.step.StepRefusal.TheVariants as refusal
use Rattle.vst_base.specs.declared.seq.SeqMsg.{SeqMsg}
use Rattle.handler_trait.specs.Handling.{Meaning, Effect, Recovery}
use Rattle.net_semantics.specs.Worlds.{World, Packet, put, change_at, one_more, one_less, sent_by}
use Rattle.net_semantics.specs.Steps.{Event, next, refusal_of, items_of, delivery, items_of_event, after_event, with_packets, flies_among}
use Rattle.net_semantics.proofs.Places.{put-there, put-elsewhere}
use Rattle.fifo_xform.specs.Peers.{Peers, peer_of, passing, holding}
use Rattle.fifo_xform.specs.Fifo.{FifoState, counted, numbered_by, numbering, gives, gives_nothing, fifo, on_timeout}
use Rattle.fifo_xform.proofs.Carried.{bare, bares, Carries, Kept, At, at-put, is-below, kept-same, kept-event, kept-held, kept-given}

-- packets say the same whatever copies are in flight
pub bares-less : {M : Type 0} (ps : List (Packet (SeqMsg M))) (k : ℕ) → bares (change_at one_less k ps) ≡ bares ps
bares-less [] k = refl
bares-less (p ∷ ps) zero = refl
bares-less (p ∷ ps) (suc k) = ap (λ l. bare p ∷ l) (bares-less ps k)

pub bares-more : {M : Type 0} (ps : List (Packet (SeqMsg M))) (k : ℕ) → bares (change_at one_more k ps) ≡ bares ps
bares-more [] k = refl
bares-more (p ∷ ps) zero = refl
bares-more (p ∷ ps) (suc k) = ap (λ l. bare p ∷ l) (bares-more ps k)

pub bare-at : {M : Type 0} (ps : List (Packet (SeqMsg M))) (k : ℕ) (p : Packet (SeqMsg M)) → slice_get ps k ≡ Some p → slice_get (bares ps) k ≡ Some (bare p)
bare-at ps k p e = slice_get-map bare ps k ∙ ap (λ o. option_map bare o) e

pub some-bare : {M : Type 0} (ps : List (Packet (SeqMsg M))) (k : ℕ) (b : Packet (SeqMsg M)) → slice_get (bares ps) k ≡ Some b → (p : Packet (SeqMsg M)) × (slice_get ps k ≡ Some p) × (bare p ≡ b)
some-bare [] k b e = absurd (none-some b e)
some-bare (p ∷ ps) zero b e = (p, refl, same_Some (bare p) b e)
some-bare (p ∷ ps) (suc k) b e = some-bare ps k b e

-- what was taken from the front of a list
taken-before : {X : Type 0} (k : ℕ) (xs : List X) (j : ℕ) (x : X) → slice_get (take k xs) j ≡ Some x → (j < k) × (slice_get xs j ≡ Some x)
taken-before zero xs j x e = absurd (none-some x e)
taken-before (suc k) [] j x e = absurd (none-some x e)
taken-before (suc k) (y ∷ xs) zero x e = (omega arith, e)
taken-before (suc k) (y ∷ xs) (suc j) x e = let more = taken-before k xs j x e in (omega (arith, more.0), more.1)

-- no packet of these ends has a copy
grounded : (b c : Bool) (n : ℕ) → n ≡ 0 → b && (c && nat_lt 0 n) ≡ false
grounded true true n e = rw e refl
grounded true false n e = refl
grounded false c n e = refl

pub nobody-flies : {M : Type 0} (e : ℕ × ℕ) (ps : List (Packet M)) → ((j : ℕ) (p : Packet M) → slice_get ps j ≡ Some p → p.source ≡ e.0 → p.destination ≡ e.1 → p.copies ≡ 0) → flies_among e ps ≡ false
nobody-flies e [] none = refl
nobody-flies e (p ∷ ps) none =
    let rest = nobody-flies e ps (λ j q at_q. none (suc j) q at_q) in
    let here : (p.source == e.0) && ((p.destination == e.1) && nat_lt 0 p.copies) ≡ false = elim (cases_eq p.source e.0) [
      | inl same_s ↦ elim (cases_eq p.destination e.1) [
        | inl same_d ↦ grounded (p.source == e.0) (p.destination == e.1) p.copies (none 0 p refl same_s same_d)
        | inr ne ↦ rw (ne_eqb p.destination e.1 ne) (grounded (p.source == e.0) false 0 refl)
      ]
      | inr ne ↦ rw (ne_eqb p.source e.0 ne) refl
    ] in
    rw (here, rest) refl

put-itself : {A : Type 0} (f : ℕ → A) (n k : ℕ) → put f n (f n) k ≡ f k
put-itself f n k = elim (cases_eq k n) [
  | inl same ↦ put-there f n (f n) k same ∙ ap f (sym same)
  | inr ne ↦ put-elsewhere f n (f n) k ne
]

module _ {S K K' I O M : Type 0} (m : Meaning S I O M) (r' : Recovery (FifoState S M) K') (r : Recovery S K) where
  abbrev pub World' : Type 0
  World' = World (FifoState S M) K' (SeqMsg M)

  -- what each node keeps of the others
  abbrev pub peers_in : World' → ℕ → Peers M
  peers_in w' n = (w'.state n).peers

  -- a world of handlers whose messages come in order, and a world of the handlers within
  pub record Mirrors (w' : World') (w : World S K M) : Type 0 where
    pub up : (n : ℕ) → w.is_up n ≡ true
    pub up' : (n : ℕ) → w'.is_up n ≡ true
    pub states : (n : ℕ) → (w'.state n).inner ≡ w.state n
    pub kept : Kept (peers_in w') (bares w'.packets) w.packets

  -- an event of the handlers within happens at node n on both sides, where these are the packets and what is kept before it
  mirrors-event : (w' : World') (w : World S K M) (ps : List (Packet (SeqMsg M))) (qs : List (Packet M)) (n : ℕ) (before : Peers M) (e' e : Effect S O M)
      → Mirrors w' w → Kept (put (peers_in w') n before) (bares ps) qs → e' ≡ e
      → Mirrors (after_event {I = I} (with_packets w' ps) (Some (record { node = n; input = None; effect = numbering before e' }))) (after_event {I = I} (with_packets w qs) (Some (record { node = n; input = None; effect = e })))
  mirrors-event w' w ps qs n before e' e h kept same = record {
    up = h.up;
    up' = h.up';
    states = λ k. elim (cases_eq k n) [
      | inl here ↦ ap (λ s. s.inner) (put-there w'.state n (numbering before e').state k here) ∙ (ap (λ x. x.state) same ∙ sym (put-there w.state n e.state k here))
      | inr ne ↦ ap (λ s. s.inner) (put-elsewhere w'.state n (numbering before e').state k ne) ∙ (h.states k ∙ sym (put-elsewhere w.state n e.state k ne))
    ];
    kept =
        let g : ℕ → Peers M = λ k. (put w'.state n (numbering before e').state k).peers in
        let at : At (put (peers_in w') n before) g n (counted before e'.sends) = record {
          there = ap (λ s. s.peers) (put-there w'.state n (numbering before e').state n refl);
          elsewhere = λ k ne. ap (λ s. s.peers) (put-elsewhere w'.state n (numbering before e').state k ne) ∙ sym (put-elsewhere (peers_in w') n before k ne);
        } in
        let after = kept-event e'.sends n (put (peers_in w') n before) g (bares ps) qs before kept (put-there (peers_in w') n before n refl) at in
        subst (λ (x : List (Packet (SeqMsg M)) × List (Packet M)). Kept g x.0 x.1)
        (λ i. (sym (map-append bare ps (sent_by n (numbered_by before e'.sends))) i, qs ++ sent_by n (same i).sends)) after;
  }

  -- a node's own event, for which no packet is given
  pub record BothTake (w' : World') (w : World S K M) (s t : Step I) : Type 0 where
    pub allowed : refusal_of net.Ord m w t ≡ None
    pub items : items_of (fifo m) w' s ≡ items_of m w t
    pub mirrors : Mirrors (next (fifo m) r' w' s) (next m r w t)

  pub record TakeAlone (w' : World') (w : World S K M) (s : Step I) : Type 0 where
    pub items : items_of {I = I} {O = O} (fifo m) w' s ≡ []
    pub mirrors : Mirrors (next (fifo m) r' w' s) w

  module _ (w' : World') (w : World S K M) (h : Mirrors w' w) where
    kept-here : (n : ℕ) → Kept (put (peers_in w') n (peers_in w' n)) (bares w'.packets) w.packets
    kept-here n = kept-same (peers_in w') (put (peers_in w') n (peers_in w' n)) n (bares w'.packets) w.packets h.kept (at-put (peers_in w') n (peers_in w' n))

    pub take-in : (n : ℕ) (i : I) → refusal_of net.Dup (fifo m) w' (step.In n i) ≡ None → BothTake w' w (step.In n i) (step.In n i)
    take-in n i allowed =
        let same : m.input n (w'.state n).inner i ≡ m.input n (w.state n) i = ap (λ s. m.input n s i) (h.states n) in
        let up' = h.up' n in
        let up = h.up n in
        record {
          allowed = rw up (rw up' at allowed);
          items = ap (λ e. item.Input n i ∷ map (λ o. item.Output n o) e.outputs) same;
          mirrors = mirrors-event w' w w'.packets w.packets n (peers_in w' n) (m.input n (w'.state n).inner i) (m.input n (w.state n) i) h (kept-here n) same;
        }

    pub take-tick : (n : ℕ) → refusal_of {I = I} net.Dup (fifo m) w' (step.Tick n) ≡ None → on_timeout m n (w'.state n) None ≡ (fifo m).timeout n (w'.state n) → BothTake w' w (step.Tick n) (step.Tick n)
    take-tick n allowed is =
        let same : m.timeout n (w'.state n).inner ≡ m.timeout n (w.state n) = ap (λ s. m.timeout n s) (h.states n) in
        let up' = h.up' n in
        let up = h.up n in
        let moves = mirrors-event w' w w'.packets w.packets n (peers_in w' n) (m.timeout n (w'.state n).inner) (m.timeout n (w.state n)) h (kept-here n) same in
        record {
          allowed = rw up (rw up' at allowed);
          items =
              ap (λ (e : Effect (FifoState S M) O (SeqMsg M)). items_of_event {I = I} (Some (record { node = n; input = None; effect = e }))) (sym is)
              ∙ ap (λ (e : Effect S O M). items_of_event {I = I} (Some (record { node = n; input = None; effect = e }))) same;
          mirrors = subst (λ (e : Effect (FifoState S M) O (SeqMsg M)). Mirrors (after_event {I = I} w' (Some (record { node = n; input = None; effect = e }))) (next m r w (step.Tick n))) is moves;
        }

    pub take-dup : (k : ℕ) → TakeAlone w' w (step.Dup k)
    take-dup k = record {
      items = refl;
      mirrors = record { up = h.up; up' = h.up'; states = h.states; kept = subst (λ bs. Kept (peers_in w') bs w.packets) (sym (bares-more w'.packets k)) h.kept };
    }

    -- what is delivered was sent
    pub find-sent : (k : ℕ) (o : Option (Packet (SeqMsg M))) → slice_get w'.packets k ≡ o → refusal_of {I = I} net.Dup (fifo m) w' (step.Deliver k) ≡ None
        → (p : Packet (SeqMsg M)) × (slice_get w'.packets k ≡ Some p)
    find-sent k None e allowed = let clash : Some refusal.NoCopy ≡ None = rw e at allowed in cc
    find-sent k (Some p) e allowed = (p, e)

    -- packet k is the next of its sender at its receiver
    module _ (k : ℕ) (p : Packet (SeqMsg M)) (there : slice_get w'.packets k ≡ Some p) (is_next : p.content.number ≡ (peer_of (peers_in w' p.destination) p.source).expected) where
      abbrev pub within' : Effect S O M
      within' = m.message p.destination (w'.state p.destination).inner p.source p.content.inner

      other : (q : Packet M) × (slice_get w.packets k ≡ Some q)
      other = at-other w.packets (bares w'.packets) k (bare p) (sym h.kept.lengths) (bare-at w'.packets k p there) where
        at-other : {X Y : Type 0} (xs : List X) (ys : List Y) (j : ℕ) (y : Y) → length xs ≡ length ys → slice_get ys j ≡ Some y → (x : X) × (slice_get xs j ≡ Some x)
        at-other [] [] j y same e = absurd (none-some y e)
        at-other [] (b ∷ ys) j y same e = absurd (omega (arith, same))
        at-other (a ∷ xs) [] j y same e = absurd (omega (arith, same))
        at-other (a ∷ xs) (b ∷ ys) zero y same e = (a, refl)
        at-other (a ∷ xs) (b ∷ ys) (suc j) y same e = at-other xs ys j y (omega (arith, same)) e

      carries : Carries (peer_of (peers_in w' p.destination) p.source).expected (bare p) other.0
      carries = h.kept.carried k (bare p) other.0 (bare-at w'.packets k p there) other.1

      one-copy : other.0.copies ≡ 1
      one-copy =
          let waits : nat_lt p.content.number (peer_of (peers_in w' p.destination) p.source).expected ≡ false = rw (← is_next) (itself p.content.number) in
          carries.copies ∙ ap (λ b. cond b 0 1) waits
        where
          itself : (n : ℕ) → nat_lt n n ≡ false
          itself n = grind arith

      -- those that were sent before it to the same node were given
      none-before : (j : ℕ) (q : Packet M) → slice_get (take k w.packets) j ≡ Some q → q.source ≡ other.0.source → q.destination ≡ other.0.destination → q.copies ≡ 0
      none-before j q at_q source destination =
          let before = taken-before k w.packets j q at_q in
          let b = at-mate (bares w'.packets) w.packets j q h.kept.lengths before.1 in
          let c = h.kept.carried j b.0 q b.1 before.1 in
          let same_s : b.0.source ≡ p.source = c.source ∙ (source ∙ sym carries.source) in
          let same_d : b.0.destination ≡ p.destination = c.destination ∙ (destination ∙ sym carries.destination) in
          let rises : b.0.content.number < p.content.number = h.kept.rising j k b.0 (bare p) before.0 b.1 (bare-at w'.packets k p there) same_s same_d in
          let expected : (peer_of (peers_in w' b.0.destination) b.0.source).expected ≡ p.content.number = rw (same_d, same_s) (sym is_next) in
          c.copies ∙ ap (λ x. cond x 0 1) (is-below b.0.content.number _ (omega (arith, rises, expected)))
        where
          at-mate : {X Y : Type 0} (xs : List X) (ys : List Y) (j : ℕ) (y : Y) → length xs ≡ length ys → slice_get ys j ≡ Some y → (x : X) × (slice_get xs j ≡ Some x)
          at-mate [] [] j y same e = absurd (none-some y e)
          at-mate [] (b ∷ ys) j y same e = absurd (omega (arith, same))
          at-mate (a ∷ xs) [] j y same e = absurd (omega (arith, same))
          at-mate (a ∷ xs) (b ∷ ys) zero y same e = (a, refl)
          at-mate (a ∷ xs) (b ∷ ys) (suc j) y same e = at-mate xs ys j y (omega (arith, same)) e

      given-allowed : refusal_of {I = I} net.Ord m w (step.Deliver k) ≡ None
      given-allowed =
          let up = h.up other.0.destination in
          let first = nobody-flies (other.0.source, other.0.destination) (take k w.packets) none-before in
          rw (other.1, up, one-copy, first) refl

      abbrev within : Effect S O M
      within = m.message other.0.destination (w.state other.0.destination) other.0.source other.0.content

      same-message : (d d2 : ℕ) (s s2 : S) (a a2 : ℕ) (x x2 : M) → d ≡ d2 → s ≡ s2 → a ≡ a2 → x ≡ x2 → m.message d s a x ≡ m.message d2 s2 a2 x2
      same-message d d2 s s2 a a2 x x2 e1 e2 e3 e4 = cc

      same-within : within' ≡ within
      same-within = same-message p.destination other.0.destination (w'.state p.destination).inner (w.state other.0.destination) p.source other.0.source p.content.inner other.0.content
          carries.destination (h.states p.destination ∙ ap w.state carries.destination) carries.source carries.content

      within-is : delivery {I = I} m w (slice_get w.packets k) ≡ Some (record { node = other.0.destination; input = None; effect = within })
      within-is = ap (λ o. delivery {I = I} m w o) other.1

      -- the event in which it is given, with these packets in flight
      abbrev pub given_event : Event (FifoState S M) I O (SeqMsg M)
      given_event = record { node = p.destination; input = None; effect = gives m p.destination (w'.state p.destination) p.source p.content.inner }

      pub given-items : items_of_event (Some given_event) ≡ items_of m w (step.Deliver k)
      given-items = (λ i. map (λ o. item.Output (carries.destination i) o) (same-within i).outputs) ∙ ap (λ o. items_of_event {I = I} o) (sym within-is)

      pub given-mirrors : (ps : List (Packet (SeqMsg M))) → bares ps ≡ bares w'.packets → Mirrors (after_event (with_packets w' ps) (Some given_event)) (next m r w (step.Deliver k))
      given-mirrors ps same_bares =
          let before : Peers M = passing (peers_in w' p.destination) p.source in
          let kept = kept-given (peers_in w') (put (peers_in w') p.destination before) (bares w'.packets) w.packets h.kept k (bare p) (bare-at w'.packets k p there) is_next (at-put (peers_in w') p.destination before) in
          let moves : (d : ℕ) (e : Effect S O M) → p.destination ≡ d → within' ≡ e
          → Mirrors (after_event (with_packets w' ps) (Some given_event)) (after_event {I = I} (with_packets w (change_at one_less k w.packets)) (Some (record { node = d; input = None; effect = e }))) =
          λ d e at_d same. subst (λ (d2 : ℕ). Mirrors (after_event (with_packets w' ps) (Some given_event)) (after_event {I = I} (with_packets w (change_at one_less k w.packets)) (Some (record { node = d2; input = None; effect = e })))) at_d
          (mirrors-event w' w ps (change_at one_less k w.packets) p.destination before within' e h (subst (λ bs. Kept (put (peers_in w') p.destination before) bs (change_at one_less k w.packets)) (sym same_bares) kept) same) in
          subst (λ (o : Option (Event S I O M)). Mirrors (after_event (with_packets w' ps) (Some given_event)) (after_event (with_packets w (change_at one_less k w.packets)) o)) (sym within-is)
          (moves other.0.destination within carries.destination same-within)

      pub take-given : (s : Step I) (ps : List (Packet (SeqMsg M))) → bares ps ≡ bares w'.packets → next (fifo m) r' w' s ≡ after_event (with_packets w' ps) (Some given_event)
          → items_of (fifo m) w' s ≡ items_of_event (Some given_event) → BothTake w' w s (step.Deliver k)
      take-given s ps same_bares is_world is_items = record {
        allowed = given-allowed;
        items = is_items ∙ given-items;
        mirrors = subst (λ v. Mirrors v (next m r w (step.Deliver k))) (sym is_world) (given-mirrors ps same_bares);
      }

    -- a packet arrives that is not the next of its sender
    pub take-kept : (k : ℕ) (p : Packet (SeqMsg M)) (early : Bool) → slice_get w'.packets k ≡ Some p
        → (fifo m).message p.destination (w'.state p.destination) p.source p.content
        ≡ gives_nothing (w'.state p.destination).inner (cond early (holding (peers_in w' p.destination) p.source p.content.number p.content.inner) (peers_in w' p.destination))
        → TakeAlone w' w (step.Deliver k)
    take-kept k p early there is =
        let peers : Peers M = cond early (holding (peers_in w' p.destination) p.source p.content.number p.content.inner) (peers_in w' p.destination) in
        let new : FifoState S M = record { inner = (w'.state p.destination).inner; peers = peers } in
        let event : Event (FifoState S M) I O (SeqMsg M) = record { node = p.destination; input = None; effect = gives_nothing (w'.state p.destination).inner peers } in
        let happens : delivery {I = I} (fifo m) w' (slice_get w'.packets k) ≡ Some event =
        ap (λ o. delivery {I = I} (fifo m) w' o) there ∙ ap (λ e. Some (record { node = p.destination; input = None; effect = e })) is in
        let g : ℕ → Peers M = λ n. (put w'.state p.destination new n).peers in
        let at : At (peers_in w') g p.destination peers = record {
          there = ap (λ s. s.peers) (put-there w'.state p.destination new p.destination refl);
          elsewhere = λ n ne. ap (λ s. s.peers) (put-elsewhere w'.state p.destination new n ne);
        } in
        let kept : Kept g (bares w'.packets) w.packets = by-early early p k there g at in
        let moved : Mirrors (after_event (with_packets w' (change_at one_less k w'.packets)) (Some event)) w = record {
          up = h.up;
          up' = h.up';
          states = λ n. elim (cases_eq n p.destination) [
            | inl here ↦ ap (λ s. s.inner) (put-there w'.state p.destination new n here) ∙ (ap (λ j. (w'.state j).inner) (sym here) ∙ h.states n)
            | inr ne ↦ ap (λ s. s.inner) (put-elsewhere w'.state p.destination new n ne) ∙ h.states n
          ];
          kept = subst (λ bs. Kept g bs w.packets) (sym (ap (λ ps. map bare ps) (append-nil (change_at one_less k w'.packets)) ∙ bares-less w'.packets k)) kept;
        } in
        record {
          items = ap (λ o. items_of_event {I = I} o) happens;
          mirrors = subst (λ (o : Option (Event (FifoState S M) I O (SeqMsg M))). Mirrors (after_event (with_packets w' (change_at one_less k w'.packets)) o) w) (sym happens) moved;
        }
      where
        by-early : (b : Bool) (p : Packet (SeqMsg M)) (k : ℕ) → slice_get w'.packets k ≡ Some p → (g : ℕ → Peers M)
            → At (peers_in w') g p.destination (cond b (holding (peers_in w' p.destination) p.source p.content.number p.content.inner) (peers_in w' p.destination)) → Kept g (bares w'.packets) w.packets
        by-early true p k there g at = kept-held (peers_in w') g (bares w'.packets) w.packets h.kept k (bare p) (bare-at w'.packets k p there) at
        by-early false p k there g at = kept-same (peers_in w') g p.destination (bares w'.packets) w.packets h.kept at
