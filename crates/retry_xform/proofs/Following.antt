-- Each step of retrying handlers on a network that loses packets is followed by the handlers within on one that copies them.
use Rattle.std.specs.Prelude.{◌≡◌, ℕ, zero, suc, ◌+◌, ◌-◌, Bool, true, List, [], ◌∷◌, ◌++◌, map, Option, Some, None, slice_get, refl}
use Rattle.std.proofs.Common.{ap, arith, sym, subst, ◌∙◌, inl, inr, append-nil, append_assoc}
use Rattle.std.proofs.lemmas.Bool.{cases_eq}
use Rattle.std.proofs.lemmas.List.{map-append}
use Rattle.lists.specs.Each.{each_at}
use Rattle.vst_base.specs.declared.net.Net.TheVariants as net
use Rattle.vst_base.specs.declared.step.Step.{Step}
use Rattle.vst_base.specs.declared.step.Step.TheVariants as step
use Rattle.vst_base.specs.declared.step.Item.{Item}
use Rattle.vst_base.specs.declared.step.Item.TheVariants as item
use Rattle.vst_base.specs.declared.step.StepRefusal.TheVariants as refusal
use Rattle.handler_trait.specs.Handling.{Meaning, Effect}
use Rattle.net_semantics.specs.Worlds.{World, Packet, put, change_at, one_more, one_less, sent_by}
use Rattle.net_semantics.specs.Steps.{Event, next, refusal_of, items_of, delivery, items_of_event, after_event, with_packets}
use Rattle.net_semantics.specs.Runs.{no_recovery, first_refused_from, trace_from, run_from, place_and_why}
use Rattle.net_semantics.specs.Once.{delivered_from}
use Rattle.net_semantics.proofs.Places.{put-there, put-elsewhere, change_at-there}
use Rattle.vst_base.specs.declared.retry.RetryMsg.{RetryMsg}
use Rattle.vst_base.specs.declared.retry.RetryMsg.TheVariants as msg
use Rattle.retry_xform.specs.Keeping.{Kept, Retrying, numbered_from, rotated}
use Rattle.retry_xform.specs.Retransmission.{as_data, kept_and_sent, with_acknowledgement, with_first_resent, drop_acknowledged, retrying}
use Rattle.retry_xform.specs.Image.{names, of_packet, of_place, image_step}
use Rattle.retry_xform.proofs.Names.{place-kept, fresh}
use Rattle.retry_xform.proofs.Carrying.{Tied, Stands, WasDelivered, Carries, tied-event, tied-changed, tied-delivered, tied-acknowledged, tied-resent, tied-freed}

abbrev pub Upper : Type 0 → Type 0 → Type 0
Upper S M = World (Retrying S M) (Retrying S M) (RetryMsg M)

abbrev pub Lower : Type 0 → Type 0 → Type 0
Lower S M = World S S M

put-twice : {A : Type 0} (f : ℕ → A) (n : ℕ) (a b : A) (k : ℕ) → put (put f n a) n b k ≡ put f n b k
put-twice f n a b k = elim (cases_eq k n) [
  | inl same ↦ put-there (put f n a) n b k same ∙ sym (put-there f n b k same)
  | inr ne ↦ put-elsewhere (put f n a) n b k ne ∙ (put-elsewhere f n a k ne ∙ sym (put-elsewhere f n b k ne))
]

put-stays : (f : ℕ → Bool) (n k : ℕ) → f k ≡ true → put f n true k ≡ true
put-stays f n k h = elim (cases_eq k n) [
  | inl same ↦ put-there f n true k same
  | inr ne ↦ put-elsewhere f n true k ne ∙ h
]

-- a copy that comes and goes
there-and-back : {M : Type 0} (p : Packet M) → one_less (one_more p) ≡ p
there-and-back p = let same : p.copies + 1 - 1 ≡ p.copies = omega arith in λ i. record { source = p.source; destination = p.destination; content = p.content; copies = same i }

restored : {M : Type 0} (k : ℕ) (ps : List (Packet M)) → change_at one_less k (change_at one_more k ps) ≡ ps
restored k [] = refl
restored zero (p ∷ ps) = ap (λ q. q ∷ ps) (there-and-back p)
restored (suc k) (p ∷ ps) = ap (λ l. p ∷ l) (restored k ps)

sent-after : {M : Type 0} (n : ℕ) (ps : List (Packet M)) (xs ys : List (ℕ × M)) → (ps ++ sent_by n xs) ++ sent_by n ys ≡ ps ++ sent_by n (xs ++ ys)
sent-after {M} n ps xs ys = append_assoc ps (sent_by n xs) (sent_by n ys) ∙ ap (λ l. ps ++ l) (sym (map-append (λ (p : ℕ × M). record { source = n; destination = p.0; content = p.1; copies = 1 }) xs ys))

module _ {S M : Type 0} where
  -- a packet that the network copies or loses is carried as before
  more-carried : (delivered : ℕ → Bool) (ns : List (ℕ × ℕ)) (state' : ℕ → Retrying S M) (ps : List (Packet (RetryMsg M))) (state : ℕ → S) (qs : List (Packet M)) → Tied delivered ns state' ps state qs
      → (k : ℕ) → Tied delivered ns state' (change_at one_more k ps) state qs
  more-carried delivered ns state' ps state qs h k = tied-changed delivered ns state' ps state qs h one_more (λ p bs. refl) (λ p c. c) k

  less-carried : (delivered : ℕ → Bool) (ns : List (ℕ × ℕ)) (state' : ℕ → Retrying S M) (ps : List (Packet (RetryMsg M))) (state : ℕ → S) (qs : List (Packet M)) → Tied delivered ns state' ps state qs
      → (k : ℕ) → Tied delivered ns state' (change_at one_less k ps) state qs
  less-carried delivered ns state' ps state qs h k = tied-changed delivered ns state' ps state qs h one_less (λ p bs. refl) (λ p c. c) k

  -- by the names of the packets themselves
  retied : (delivered : ℕ → Bool) (ns : List (ℕ × ℕ)) (state' : ℕ → Retrying S M) (ps : List (Packet (RetryMsg M))) (state : ℕ → S) (qs : List (Packet M)) → Tied delivered ns state' ps state qs → Tied delivered (names ps) state' ps state qs
  retied delivered ns state' ps state qs h = subst (λ bs. Tied delivered bs state' ps state qs) (sym h.named) h

  -- with equal states and packets
  alike : (delivered : ℕ → Bool) (ns : List (ℕ × ℕ)) (s1 s2 : ℕ → Retrying S M) (p1 p2 : List (Packet (RetryMsg M))) (state : ℕ → S) (qs : List (Packet M)) → s1 ≡ s2 → p1 ≡ p2 → Tied delivered ns s1 p1 state qs → Tied delivered ns s2 p2 state qs
  alike delivered ns s1 s2 p1 p2 state qs es ep h = subst (λ (e : (ℕ → Retrying S M) × List (Packet (RetryMsg M))). Tied delivered ns e.0 e.1 state qs) (λ i. (es i, ep i)) h

-- a tick resends the first packet that was kept before
module _ {S O M : Type 0} (delivered : ℕ → Bool) (ns : List (ℕ × ℕ)) (state' : ℕ → Retrying S M) (ps : List (Packet (RetryMsg M))) (state : ℕ → S) (qs : List (Packet M))
    (h : Tied delivered ns state' ps state qs) (n : ℕ) (e : Effect S O M) where
  abbrev made : Effect (Retrying S M) O (RetryMsg M)
  made = kept_and_sent (state' n) e

  abbrev after-tick : List (Kept M) → Effect (Retrying S M) O (RetryMsg M)
  after-tick ks = with_first_resent ks made

  tied-tick : (ks : List (Kept M)) → (state' n).kept ≡ ks
      → Tied delivered (ns ++ fresh n (state' n).next e.sends) (put state' n (after-tick ks).state) (ps ++ sent_by n (after-tick ks).sends) (put state n e.state) (qs ++ sent_by n e.sends)
  tied-tick [] is = tied-event delivered ns state' ps state qs h n e
  tied-tick (k ∷ ks) is =
      let as2 = ns ++ fresh n (state' n).next e.sends in
      let once = tied-event delivered ns state' ps state qs h n e in
      let here : put state' n made.state n ≡ made.state = put-there state' n made.state n refl in
      let first : (put state' n made.state n).kept ≡ k ∷ (ks ++ numbered_from (state' n).next e.sends) = ap (λ (s : Retrying S M). s.kept) here ∙ ap (λ l. l ++ numbered_from (state' n).next e.sends) is in
      let twice = tied-resent delivered as2 (put state' n made.state) (ps ++ sent_by n made.sends) (put state n e.state) (qs ++ sent_by n e.sends) once n k (ks ++ numbered_from (state' n).next e.sends) first in
      let turn : Retrying S M → Retrying S M = λ s. record { inner = s.inner; next = s.next; kept = rotated s.kept } in
      let states : put (put state' n made.state) n (turn (put state' n made.state n)) ≡ put state' n (turn made.state) =
      ap (λ s. put (put state' n made.state) n (turn s)) here ∙ (λ i x. put-twice state' n made.state (turn made.state) x i) in
      alike delivered as2 (put (put state' n made.state) n (turn (put state' n made.state n))) (put state' n (turn made.state))
      ((ps ++ sent_by n made.sends) ++ sent_by n (as_data k ∷ [])) (ps ++ sent_by n (made.sends ++ as_data k ∷ [])) (put state n e.state) (qs ++ sent_by n e.sends)
      states (sent-after n ps made.sends (as_data k ∷ [])) twice

module _ {S I O M : Type 0} (m : Meaning S I O M) where
  -- a world of retrying handlers, and one of the handlers within
  pub record Mirrors (delivered : ℕ → Bool) (w' : Upper S M) (w : Lower S M) : Type 0 where
    pub up' : (n : ℕ) → w'.is_up n ≡ true
    pub up : (n : ℕ) → w.is_up n ≡ true
    pub tied : Tied delivered (names w'.packets) w'.state w'.packets w.state w.packets

  -- a step, and the steps that it comes to
  pub record FollowedBy (delivered : ℕ → Bool) (w' : Upper S M) (w : Lower S M) (s : Step I) (ss : List (Step I)) : Type 0 where
    pub allowed : first_refused_from net.Dup m no_recovery w ss ≡ None
    pub items : items_of (retrying m) w' s ≡ trace_from m no_recovery w ss
    pub mirrors : Mirrors (delivered_from delivered ss) (next (retrying m) no_recovery w' s) (run_from m no_recovery w ss)

  -- what clients see of these outputs
  abbrev told : ℕ → List O → List (Item I O)
  told n os = map (λ o. item.Output n o) os

  resent-outputs : (n : ℕ) (ks : List (Kept M)) (e : Effect (Retrying S M) O (RetryMsg M)) → told n (with_first_resent ks e).outputs ≡ told n e.outputs
  resent-outputs n [] e = refl
  resent-outputs n (k ∷ ks) e = refl

  module _ (delivered : ℕ → Bool) (w' : Upper S M) (w : Lower S M) (h : Mirrors delivered w' w) where
    abbrev names' : List (ℕ × ℕ)
    names' = names w'.packets

    -- what the handlers within make of an event is the same in both worlds
    abbrev TiedSo : (ℕ → Bool) → Effect (Retrying S M) O (RetryMsg M) → List (Packet (RetryMsg M)) → ℕ → Effect S O M → Type 0
    TiedSo more e' ps n e = Tied more (names (ps ++ sent_by n e'.sends)) (put w'.state n e'.state) (ps ++ sent_by n e'.sends) (put w.state n e.state) (w.packets ++ sent_by n e.sends)

    pub take-in : (n : ℕ) (i : I) → refusal_of net.Loss (retrying m) w' (step.In n i) ≡ None → FollowedBy delivered w' w (step.In n i) (step.In n i ∷ [])
    take-in n i allowed =
        let e' = m.input n (w'.state n).inner i in
        let e = m.input n (w.state n) i in
        let same : e' ≡ e = ap (λ s. m.input n s i) (h.tied.states n) in
        let up' = h.up' n in
        let up = h.up n in
        let ok : refusal_of net.Dup m w (step.In n i) ≡ None = rw up (rw up' at allowed) in
        let done = tied-event delivered names' w'.state w'.packets w.state w.packets h.tied n e' in
        let tied = retied delivered _ _ _ _ _ done in
        record {
          allowed = ap (λ o. place_and_why o None) ok;
          items = ap (λ (x : Effect S O M). item.Input n i ∷ map (λ o. item.Output n o) x.outputs) same ∙ sym (append-nil (items_of m w (step.In n i)));
          mirrors = record { up' = h.up'; up = h.up; tied = subst (λ x. TiedSo delivered (kept_and_sent (w'.state n) e') w'.packets n x) same tied };
        }

    pub take-tick : (n : ℕ) → refusal_of {I = I} net.Loss (retrying m) w' (step.Tick n) ≡ None → FollowedBy delivered w' w (step.Tick n) (step.Tick n ∷ [])
    take-tick n allowed =
        let e' = m.timeout n (w'.state n).inner in
        let e = m.timeout n (w.state n) in
        let same : e' ≡ e = ap (λ s. m.timeout n s) (h.tied.states n) in
        let up' = h.up' n in
        let up = h.up n in
        let ok : refusal_of {I = I} net.Dup m w (step.Tick n) ≡ None = rw up (rw up' at allowed) in
        let made' = with_first_resent (w'.state n).kept (kept_and_sent (w'.state n) e') in
        let done = tied-tick delivered names' w'.state w'.packets w.state w.packets h.tied n e' (w'.state n).kept refl in
        let tied = retied delivered _ _ _ _ _ done in
        record {
          allowed = ap (λ o. place_and_why o None) ok;
          items = resent-outputs n (w'.state n).kept (kept_and_sent (w'.state n) e')
              ∙ (ap (λ (x : Effect S O M). told n x.outputs) same ∙ sym (append-nil (items_of {I = I} m w (step.Tick n))));
          mirrors = record { up' = h.up'; up = h.up; tied = subst (λ x. TiedSo delivered made' w'.packets n x) same tied };
        }

    pub take-dup : (k : ℕ) → FollowedBy delivered w' w (step.Dup k) []
    take-dup k = record {
      allowed = refl;
      items = refl;
      mirrors = record { up' = h.up'; up = h.up; tied = retied delivered _ _ _ _ _ (more-carried delivered names' w'.state w'.packets w.state w.packets h.tied k) };
    }

    pub take-lose : (k : ℕ) → FollowedBy delivered w' w (step.Lose k) []
    take-lose k = record {
      allowed = refl;
      items = refl;
      mirrors = record { up' = h.up'; up = h.up; tied = retied delivered _ _ _ _ _ (less-carried delivered names' w'.state w'.packets w.state w.packets h.tied k) };
    }

    -- what is delivered was sent
    pub find-sent : (k : ℕ) (o : Option (Packet (RetryMsg M))) → slice_get w'.packets k ≡ o → refusal_of {I = I} net.Loss (retrying m) w' (step.Deliver k) ≡ None
        → (p : Packet (RetryMsg M)) × (slice_get w'.packets k ≡ Some p)
    find-sent k None e allowed = let clash : Some refusal.NoCopy ≡ None = rw e at allowed in cc
    find-sent k (Some p) e allowed = (p, e)

    module _ (k a d copies : ℕ) where
      abbrev base' : Upper S M
      base' = with_packets w' (change_at one_less k w'.packets)

      abbrev packet : RetryMsg M → Packet (RetryMsg M)
      packet c = record { source = a; destination = d; content = c; copies = copies }

      less : Tied delivered names' w'.state (change_at one_less k w'.packets) w.state w.packets
      less = less-carried delivered names' w'.state w'.packets w.state w.packets h.tied k

      abbrev event' : Effect (Retrying S M) O (RetryMsg M) → Event (Retrying S M) I O (RetryMsg M)
      event' e = record { node = d; input = None; effect = e }

      -- an acknowledgement
      pub take-ack : (x : ℕ) → slice_get w'.packets k ≡ Some (packet (msg.Ack x)) → FollowedBy delivered w' w (step.Deliver k) []
      take-ack x there =
          let was : WasDelivered delivered names' d x = each_at (Carries delivered names' w.packets) w'.packets k (packet (msg.Ack x)) h.tied.carried there in
          let gone = drop_acknowledged {O = O} a x (w'.state d) in
          let is : delivery {I = I} (retrying m) w' (slice_get w'.packets k) ≡ Some (event' gone) = ap (λ o. delivery {I = I} (retrying m) w' o) there in
          let freed = tied-freed delivered names' w'.state (change_at one_less k w'.packets) w.state w.packets less d a x was in
          let packets : change_at one_less k w'.packets ≡ change_at one_less k w'.packets ++ [] = sym (append-nil (change_at one_less k w'.packets)) in
          let tied = alike delivered names' _ _ _ (change_at one_less k w'.packets ++ []) w.state w.packets refl packets freed in
          record {
            allowed = refl;
            items = ap (λ o. items_of_event {I = I} o) is;
            mirrors = subst (λ (o : Option (Event (Retrying S M) I O (RetryMsg M))). Mirrors delivered (after_event base' o) w) (sym is)
                (record { up' = h.up'; up = h.up; tied = retied delivered _ _ _ _ _ tied });
          }

      -- data
      module _ (x : ℕ) (c : M) (there : slice_get w'.packets k ≡ Some (packet (msg.Data x c))) where
        abbrev pub stands : Stands names' w.packets a x d c
        stands = each_at (Carries delivered names' w.packets) w'.packets k (packet (msg.Data x c)) h.tied.carried there

        abbrev j : ℕ
        j = stands.place

        abbrev q : Packet M
        q = record { source = a; destination = d; content = c; copies = 1 }

        abbrev more : ℕ → Bool
        more = put delivered j true

        abbrev e' : Effect S O M
        e' = m.message d (w'.state d).inner a c

        abbrev e : Effect S O M
        e = m.message d (w.state d) a c

        abbrev made' : Effect (Retrying S M) O (RetryMsg M)
        made' = kept_and_sent (w'.state d) e'

        same : e' ≡ e
        same = ap (λ s. m.message d s a c) (h.tied.states d)

        abbrev as2 : List (ℕ × ℕ)
        as2 = names' ++ fresh d (w'.state d).next e'.sends

        acked : WasDelivered more as2 a x
        acked = record { place = j; found = place-kept (a, x) names' (fresh d (w'.state d).next e'.sends) j stands.found; was = put-there delivered j true j refl }

        abbrev base-packets : List (Packet (RetryMsg M))
        base-packets = change_at one_less k w'.packets

        after : Tied more as2 (put w'.state d made'.state) (base-packets ++ sent_by d (with_acknowledgement a x made').sends) (put w.state d e'.state) (w.packets ++ sent_by d e'.sends)
        after =
            let told = tied-delivered delivered names' w'.state base-packets w.state w.packets less more (λ i was. put-stays delivered j i was) in
            let done = tied-event more names' w'.state base-packets w.state w.packets told d e' in
            let acks = tied-acknowledged more as2 (put w'.state d made'.state) (base-packets ++ sent_by d made'.sends) (put w.state d e'.state) (w.packets ++ sent_by d e'.sends) done d a x acked in
            alike more as2 (put w'.state d made'.state) (put w'.state d made'.state) _ _ (put w.state d e'.state) (w.packets ++ sent_by d e'.sends) refl
            (sent-after d base-packets made'.sends ((a, msg.Ack x) ∷ [])) acks

        tied : TiedSo more (with_acknowledgement a x made') base-packets d e
        tied = subst (λ (y : Effect S O M). TiedSo more (with_acknowledgement a x made') base-packets d y) same (retied more _ _ _ _ _ after)

        is' : delivery {I = I} (retrying m) w' (slice_get w'.packets k) ≡ Some (event' (with_acknowledgement a x made'))
        is' = ap (λ o. delivery {I = I} (retrying m) w' o) there

        abbrev copied : Lower S M
        copied = with_packets w (change_at one_more j w.packets)

        there-copied : slice_get copied.packets j ≡ Some (one_more q)
        there-copied = change_at-there one_more w.packets j q stands.there

        abbrev within : Event S I O M
        within = record { node = d; input = None; effect = e }

        is : delivery {I = I} m copied (slice_get copied.packets j) ≡ Some within
        is = ap (λ o. delivery {I = I} m copied o) there-copied

        copy-ok : refusal_of {I = I} net.Dup m w (step.Dup j) ≡ None
        copy-ok = let found = stands.there in rw found refl

        deliver-ok : refusal_of {I = I} net.Dup m copied (step.Deliver j) ≡ None
        deliver-ok = let up = h.up d in rw (there-copied, up) refl

        abbrev base : Lower S M
        base = with_packets copied (change_at one_less j copied.packets)

        base-is : base ≡ w
        base-is = λ i. record { state = w.state; is_up = w.is_up; kept = w.kept; packets = restored j w.packets i }

        pub take-data : FollowedBy delivered w' w (step.Deliver k) (step.Dup j ∷ step.Deliver j ∷ [])
        take-data = record {
          allowed = ap (λ o. place_and_why o (place_and_why (refusal_of {I = I} net.Dup m copied (step.Deliver j)) None)) copy-ok ∙ ap (λ o. place_and_why None (place_and_why o None)) deliver-ok;
          items = ap (λ o. items_of_event {I = I} o) is'
              ∙ (ap (λ (y : Effect S O M). map (λ o. item.Output d o) y.outputs) same
              ∙ (sym (append-nil (map (λ o. item.Output d o) e.outputs)) ∙ ap (λ o. items_of_event {I = I} o ++ []) (sym is)));
          mirrors = subst (λ (o : Option (Event (Retrying S M) I O (RetryMsg M))). Mirrors more (after_event base' o) (after_event base (delivery {I = I} m copied (slice_get copied.packets j)))) (sym is')
              (subst (λ (o : Option (Event S I O M)). Mirrors more (after_event base' (Some (event' (with_acknowledgement a x made')))) (after_event base o)) (sym is)
              (subst (λ (u : Lower S M). Mirrors more (after_event base' (Some (event' (with_acknowledgement a x made')))) (after_event u (Some within))) (sym base-is)
              (record { up' = h.up'; up = h.up; tied = tied })));
        }

    -- a delivery of what was sent
    take-packet : (k a d copies : ℕ) (c : RetryMsg M) → slice_get w'.packets k ≡ Some (record { source = a; destination = d; content = c; copies = copies })
        → FollowedBy delivered w' w (step.Deliver k) (image_step w' (step.Deliver k))
    take-packet k a d copies (msg.Ack x) there = subst (FollowedBy delivered w' w (step.Deliver k)) (sym (ap (of_packet {I = I} names') there)) (take-ack k a d copies x there)
    take-packet k a d copies (msg.Data x c) there =
        let image = ap (of_packet {I = I} names') there ∙ ap (of_place {I = I}) (stands k a d copies x c there).found in
        subst (FollowedBy delivered w' w (step.Deliver k)) (sym image) (take-data k a d copies x c there)

    pub follow : (s : Step I) → refusal_of net.Loss (retrying m) w' s ≡ None → FollowedBy delivered w' w s (image_step w' s)
    follow (step.In n i) allowed = take-in n i allowed
    follow (step.Tick n) allowed = take-tick n allowed
    follow (step.Deliver k) allowed = let found = find-sent k (slice_get w'.packets k) refl allowed in let p = found.0 in take-packet k p.source p.destination p.copies p.content found.1
    follow (step.Dup k) allowed = take-dup k
    follow (step.Lose k) allowed = take-lose k
    follow (step.Crash n) allowed = let clash : Some refusal.NotThisNet ≡ None = allowed in cc
    follow (step.Reboot n) allowed = let clash : Some refusal.NotThisNet ≡ None = allowed in cc
