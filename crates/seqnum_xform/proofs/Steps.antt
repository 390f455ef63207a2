-- One step of numbered handlers on a network that copies packets, beside the handlers within on a bag.
use Rattle.std.specs.Prelude.{◌≡◌, ℕ, Bool, true, false, [], ◌∷◌, ◌++◌, map, Option, Some, None, cond, slice_get, refl}
use Rattle.std.proofs.Common.{ap, arith, sym, subst, ◌∙◌, inl, inr}
use Rattle.std.proofs.lemmas.List.{append-nil}
use Rattle.std.proofs.lemmas.Bool.{cases_eq, false≢true}
use Rattle.vst_base.specs.declared.net.Net.TheVariants as net
use Rattle.vst_base.specs.declared.step.Step.{Step}
use Rattle.vst_base.specs.declared.step.Step.TheVariants as step
use Rattle.vst_base.specs.declared.step.Item.TheVariants as item
use Rattle.vst_base.specs.declared.step.StepRefusal.TheVariants as refusal
use Rattle.vst_base.specs.declared.seq.SeqMsg.{SeqMsg}
use Rattle.handler_trait.specs.Handling.{Meaning, Effect, Recovery}
use Rattle.net_semantics.specs.Worlds.{World, Packet, put, change_at, one_more, one_less, sent_by}
use Rattle.net_semantics.specs.Steps.{Event, next, refusal_of, items_of, delivery, items_of_event, after_event, with_packets}
use Rattle.net_semantics.specs.Once.{delivered_after}
use Rattle.net_semantics.proofs.Places.{put-there, put-elsewhere}
use Rattle.seqnum_xform.specs.Numbering.{Numbered, with_seen, numbered, nothing, sequence_numbered}
use Rattle.seqnum_xform.proofs.Carried.{Carries, Tied, carried, more-alike, less-alike, tied-one, tied-event, tied-first}

-- putting a value where it stands, or twice, or where it is known to stand
put-itself : {A : Type 0} (f : ℕ → A) (n k : ℕ) → put f n (f n) k ≡ f k
put-itself f n k = elim (cases_eq k n) [
  | inl same ↦ put-there f n (f n) k same ∙ ap f (sym same)
  | inr ne ↦ put-elsewhere f n (f n) k ne
]

put-twice : {A : Type 0} (f : ℕ → A) (n : ℕ) (a b : A) (k : ℕ) → put (put f n a) n b k ≡ put f n b k
put-twice f n a b k = elim (cases_eq k n) [
  | inl same ↦ put-there (put f n a) n b k same ∙ sym (put-there f n b k same)
  | inr ne ↦ put-elsewhere (put f n a) n b k ne ∙ (put-elsewhere f n a k ne ∙ sym (put-elsewhere f n b k ne))
]

put-known : {A : Type 0} (f : ℕ → A) (n : ℕ) {a : A} → f n ≡ a → (k : ℕ) → put f n a k ≡ f k
put-known f n {a} e k = elim (cases_eq k n) [
  | inl same ↦ put-there f n a k same ∙ (sym e ∙ ap f (sym same))
  | inr ne ↦ put-elsewhere f n a k ne
]

module _ {S K K' I O M : Type 0} (m : Meaning S I O M) (r' : Recovery (Numbered S) K') (r : Recovery S K) where
  -- a world of numbered handlers, where these packets were delivered, and a world of the handlers within
  pub record Mirrors (delivered : ℕ → Bool) (w' : World (Numbered S) K' (SeqMsg M)) (w : World S K M) : Type 0 where
    pub up' : (n : ℕ) → w'.is_up n ≡ true
    pub up : (n : ℕ) → w.is_up n ≡ true
    pub tied : Tied delivered w'.state w'.packets w.state w.packets

  -- a step that both take, with the same items
  pub record BothTake (delivered : ℕ → Bool) (w' : World (Numbered S) K' (SeqMsg M)) (w : World S K M) (s : Step I) : Type 0 where
    pub allowed : refusal_of net.Bag m w s ≡ None
    pub items : items_of (sequence_numbered m) w' s ≡ items_of m w s
    pub mirrors : Mirrors (delivered_after delivered s) (next (sequence_numbered m) r' w' s) (next m r w s)

  -- a step that numbered handlers take alone, and of which clients see nothing
  pub record TakeAlone (delivered : ℕ → Bool) (w' : World (Numbered S) K' (SeqMsg M)) (w : World S K M) (s : Step I) : Type 0 where
    pub items : items_of {I = I} {O = O} (sequence_numbered m) w' s ≡ []
    pub mirrors : Mirrors (delivered_after delivered s) (next (sequence_numbered m) r' w' s) w

  module _ (delivered : ℕ → Bool) (w' : World (Numbered S) K' (SeqMsg M)) (w : World S K M) (h : Mirrors delivered w' w) where
    -- an event at a node that the network does nothing for
    abbrev TiedAfter : ℕ → Effect S O M → Effect S O M → Type 0
    TiedAfter n e' e =
        let after = numbered (w'.state n).next (w'.state n).seen e' in
        Tied delivered (put w'.state n after.state) (w'.packets ++ sent_by n after.sends) (put w.state n e.state) (w.packets ++ sent_by n e.sends)

    alone : (n : ℕ) (e' e : Effect S O M) → e' ≡ e → TiedAfter n e' e
    alone n e' e same = subst (λ x. TiedAfter n x e) (sym same) (tied-event delivered w'.state w'.packets w.state w.packets h.tied n e)

    pub take-in : (n : ℕ) (i : I) → refusal_of net.Dup (sequence_numbered m) w' (step.In n i) ≡ None → BothTake delivered w' w (step.In n i)
    take-in n i allowed =
        let same : m.input n (w'.state n).inner i ≡ m.input n (w.state n) i = ap (λ s. m.input n s i) (h.tied.states n) in
        let up' = h.up' n in
        let up = h.up n in
        record {
          allowed = rw up (rw up' at allowed);
          items = ap (λ e. item.Input n i ∷ map (λ o. item.Output n o) e.outputs) same;
          mirrors = record { up' = h.up'; up = h.up; tied = alone n (m.input n (w'.state n).inner i) (m.input n (w.state n) i) same };
        }

    pub take-tick : (n : ℕ) → refusal_of {I = I} net.Dup (sequence_numbered m) w' (step.Tick n) ≡ None → BothTake delivered w' w (step.Tick n)
    take-tick n allowed =
        let same : m.timeout n (w'.state n).inner ≡ m.timeout n (w.state n) = ap (λ s. m.timeout n s) (h.tied.states n) in
        let up' = h.up' n in
        let up = h.up n in
        record {
          allowed = rw up (rw up' at allowed);
          items = ap (λ e. map (λ o. item.Output n o) e.outputs) same;
          mirrors = record { up' = h.up'; up = h.up; tied = alone n (m.timeout n (w'.state n).inner) (m.timeout n (w.state n)) same };
        }

    pub take-dup : (k : ℕ) → TakeAlone delivered w' w (step.Dup k)
    take-dup k = record {
      items = refl;
      mirrors = record { up' = h.up'; up = h.up; tied = tied-one one_more more-alike delivered w'.state w'.packets w.state w.packets k (λ p _ _. omega arith) h.tied };
    }

    -- what is delivered was sent
    pub find-sent : (k : ℕ) (o : Option (Packet (SeqMsg M))) → slice_get w'.packets k ≡ o → refusal_of {I = I} net.Dup (sequence_numbered m) w' (step.Deliver k) ≡ None
        → (p : Packet (SeqMsg M)) × (slice_get w'.packets k ≡ Some p)
    find-sent k None e allowed = let clash : Some refusal.NoCopy ≡ None = rw e at allowed in cc
    find-sent k (Some p) e allowed = (p, e)

    module _ (k : ℕ) (p : Packet (SeqMsg M)) (there : slice_get w'.packets k ≡ Some p) where
      abbrev base' : World (Numbered S) K' (SeqMsg M)
      base' = with_packets w' (change_at one_less k w'.packets)

      abbrev base : World S K M
      base = with_packets w (change_at one_less k w.packets)

      abbrev before : Numbered S
      before = w'.state p.destination

      abbrev within' : Effect S O M
      within' = m.message p.destination before.inner p.source p.content.inner

      -- what happens at the receiver, by whether the number was seen
      abbrev event' : Bool → Event (Numbered S) I O (SeqMsg M)
      event' seen = record {
        node = p.destination;
        input = None;
        effect = cond seen (nothing before) (numbered before.next (with_seen before.seen p.source p.content.number) within');
      }

      pub carrier : (q : Packet M) × (slice_get w.packets k ≡ Some q) × Carries (delivered k) w'.state p q
      carrier = carried (delivered k) w'.state (slice_get w'.packets k) (slice_get w.packets k) p there (h.tied.packets k)

      -- the receiver has seen the number exactly where the packet was delivered
      delivery-is : (b : Bool) → delivered k ≡ b → delivery {I = I} (sequence_numbered m) w' (slice_get w'.packets k) ≡ Some (event' b)
      delivery-is b e = ap (λ o. delivery {I = I} (sequence_numbered m) w' o) there ∙ ap (λ seen. Some (event' seen)) (carrier.2.seen ∙ e)

      nothing-moves : after_event base' (Some (event' true)) ≡ base'
      nothing-moves = λ i. record {
        state = λ n. put-itself w'.state p.destination n i;
        is_up = w'.is_up;
        kept = w'.kept;
        packets = append-nil (change_at one_less k w'.packets) i;
      }

      pub take-again : delivered k ≡ true → TakeAlone delivered w' w (step.Deliver k)
      take-again again =
          let same : put delivered k true ≡ delivered = λ i n. put-known delivered k again n i in
          record {
            items = ap (λ o. items_of_event {I = I} o) (delivery-is true again);
            mirrors = subst (λ (o : Option (Event (Numbered S) I O (SeqMsg M))). Mirrors (put delivered k true) (after_event base' o) w) (sym (delivery-is true again))
                (subst (λ (u : World (Numbered S) K' (SeqMsg M)). Mirrors (put delivered k true) u w) (sym nothing-moves)
                (subst (λ (d : ℕ → Bool). Mirrors d base' w) (sym same) (record {
                  up' = h.up';
                  up = h.up;
                  tied = tied-one one_less less-alike delivered w'.state w'.packets w.state w.packets k (λ _ _ first. absurd (false≢true (sym first ∙ again))) h.tied;
                })));
          }

      module _ (q : Packet M) (there_q : slice_get w.packets k ≡ Some q) (c : Carries (delivered k) w'.state p q) (first : delivered k ≡ false) where
        abbrev within : Effect S O M
        within = m.message q.destination (w.state q.destination) q.source q.content

        same-message : (d d2 : ℕ) (s s2 : S) (a a2 : ℕ) (x x2 : M) → d ≡ d2 → s ≡ s2 → a ≡ a2 → x ≡ x2 → m.message d s a x ≡ m.message d2 s2 a2 x2
        same-message d d2 s s2 a a2 x x2 e1 e2 e3 e4 = cc

        same-within : within' ≡ within
        same-within = same-message p.destination q.destination before.inner (w.state q.destination) p.source q.source p.content.inner q.content
            c.destination (h.tied.states p.destination ∙ ap w.state c.destination) c.source c.content

        abbrev noted : Numbered S
        noted = record { inner = before.inner; next = before.next; seen = with_seen before.seen p.source p.content.number }

        abbrev taken' : ℕ → Effect S O M → Type 0
        taken' d e =
            let after = numbered noted.next noted.seen within' in
            Tied (put delivered k true) (put w'.state p.destination after.state) (change_at one_less k w'.packets ++ sent_by p.destination after.sends)
            (put w.state d e.state) (change_at one_less k w.packets ++ sent_by d e.sends)

        -- the receiver notes the number, and then the event happens
        tied-noted : taken' p.destination within'
        tied-noted =
            let seen = tied-first delivered w'.state w'.packets w.state w.packets h.tied k p there first in
            let happens = tied-event (put delivered k true) (put w'.state p.destination noted) (change_at one_less k w'.packets) w.state (change_at one_less k w.packets) seen p.destination within' in
            let here : put w'.state p.destination noted p.destination ≡ noted = put-there w'.state p.destination noted p.destination refl in
            let twice : put (put w'.state p.destination noted) p.destination ≡ put w'.state p.destination = λ i x n. put-twice w'.state p.destination noted x n i in
            subst (λ (g : Numbered S → ℕ → Numbered S). Tied (put delivered k true) (g (numbered noted.next noted.seen within').state) (change_at one_less k w'.packets ++ sent_by p.destination (numbered noted.next noted.seen within').sends)
            (put w.state p.destination within'.state) (change_at one_less k w.packets ++ sent_by p.destination within'.sends)) twice
            (subst (λ (x : Numbered S). Tied (put delivered k true) (put (put w'.state p.destination noted) p.destination (numbered x.next x.seen within').state)
            (change_at one_less k w'.packets ++ sent_by p.destination (numbered x.next x.seen within').sends)
            (put w.state p.destination within'.state) (change_at one_less k w.packets ++ sent_by p.destination within'.sends)) here happens)

        tied-both : taken' q.destination within
        tied-both = subst (λ (x : ℕ × Effect S O M). taken' x.0 x.1) (λ i. (c.destination i, same-within i)) tied-noted

        one-copy : q.copies ≡ 1
        one-copy = c.copies ∙ ap (λ b. cond b 0 1) first

        not-refused : refusal_of {I = I} net.Bag m w (step.Deliver k) ≡ None
        not-refused = let up = h.up q.destination in rw (there_q, up, one-copy) refl

        within-is : delivery {I = I} m w (slice_get w.packets k) ≡ Some (record { node = q.destination; input = None; effect = within })
        within-is = ap (λ o. delivery {I = I} m w o) there_q

        pub take-first : BothTake delivered w' w (step.Deliver k)
        take-first = record {
          allowed = not-refused;
          items =
              ap (λ o. items_of_event {I = I} o) (delivery-is false first)
              ∙ ((λ i. map (λ o. item.Output (c.destination i) o) (same-within i).outputs) ∙ ap (λ o. items_of_event {I = I} o) (sym within-is));
          mirrors = subst (λ (o : Option (Event (Numbered S) I O (SeqMsg M))). Mirrors (put delivered k true) (after_event base' o) (after_event base (delivery {I = I} m w (slice_get w.packets k))))
              (sym (delivery-is false first))
              (subst (λ (o : Option (Event S I O M)). Mirrors (put delivered k true) (after_event base' (Some (event' false))) (after_event base o)) (sym within-is)
              (record { up' = h.up'; up = h.up; tied = tied-both }));
        }
