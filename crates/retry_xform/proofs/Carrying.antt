-- How the packets of retrying handlers carry those of the handlers within, where these were delivered.
use Rattle.std.specs.Prelude.{◌≡◌, ◌⊎◌, ℕ, zero, suc, ◌+◌, ◌<◌, ◌≤◌, ◌==◌, ◌&&◌, not, Bool, true, false, cond, List, [], ◌∷◌, ◌++◌, length, Option, Some, None, slice_get, refl}
use Rattle.std.proofs.Common.{ap, arith, sym, subst, ◌∙◌, inl, inr, append_assoc, length-append}
use Rattle.std.proofs.lemmas.Bool.{cases_eq, eqb-true}
use Rattle.std.proofs.lemmas.Option.{none-some, same_Some}
use Rattle.lists.specs.Each.{Each, each_append, each_weaker}
use Rattle.lists.specs.Places.{slice_get_front, slice_get_seam, slice_get_either}
use Rattle.handler_trait.specs.Handling.{Effect}
use Rattle.net_semantics.specs.Worlds.{Packet, put, change_at, sent_by}
use Rattle.net_semantics.proofs.Places.{put-there, put-elsewhere}
use Rattle.vst_base.specs.declared.retry.RetryMsg.{RetryMsg}
use Rattle.vst_base.specs.declared.retry.RetryMsg.TheVariants as msg
use Rattle.retry_xform.specs.Keeping.{Kept, Retrying, acknowledged, is_meant, numbered_from, rotated}
use Rattle.retry_xform.specs.KeepingLaws.{each-acknowledged, each-rotated}
use Rattle.retry_xform.specs.Retransmission.{all_as_data, as_data, kept_and_sent}
use Rattle.retry_xform.specs.Image.{place_of, with_content, names_after, names, Keeps, IsKept}
use Rattle.retry_xform.proofs.Names.{IsUnused, unused-next, fresh, length-fresh, fresh-known, names-append, names-changed, names-fresh, place-kept, place-there, with-known}

-- a packet of the run within with this name: one copy of it is in flight
pub record Stands {M : Type 0} (ns : List (ℕ × ℕ)) (qs : List (Packet M)) (source number destination : ℕ) (content : M) : Type 0 where
  pub place : ℕ
  pub found : place_of (source, number) ns ≡ Some place
  pub there : slice_get qs place ≡ Some (record { source = source; destination = destination; content = content; copies = 1 })

-- a packet with this name was delivered
pub record WasDelivered (delivered : ℕ → Bool) (ns : List (ℕ × ℕ)) (source number : ℕ) : Type 0 where
  pub place : ℕ
  pub found : place_of (source, number) ns ≡ Some place
  pub was : delivered place ≡ true

module _ {M : Type 0} where
  abbrev pub StandsFor : List (ℕ × ℕ) → List (Packet M) → ℕ → Kept M → Type 0
  StandsFor ns qs n k = Stands ns qs n k.number k.destination k.content

  abbrev pub HasContent : (ℕ → Bool) → List (ℕ × ℕ) → List (Packet M) → ℕ → ℕ → RetryMsg M → Type 0
  HasContent delivered ns qs source destination (msg.Data number c) = Stands ns qs source number destination c
  HasContent delivered ns qs source destination (msg.Ack number) = WasDelivered delivered ns destination number

  abbrev pub Carries : (ℕ → Bool) → List (ℕ × ℕ) → List (Packet M) → Packet (RetryMsg M) → Type 0
  Carries delivered ns qs p = HasContent delivered ns qs p.source p.destination p.content

-- the nodes and packets of retrying handlers, with the names of the packets within, and those of the handlers within
pub record Tied {S M : Type 0} (delivered : ℕ → Bool) (ns : List (ℕ × ℕ)) (state' : ℕ → Retrying S M) (ps : List (Packet (RetryMsg M))) (state : ℕ → S) (qs : List (Packet M)) : Type 0 where
  pub named : names ps ≡ ns
  pub states : (n : ℕ) → (state' n).inner ≡ state n
  pub counted : length ns ≡ length qs
  pub carried : Each (Carries delivered ns qs) ps
  pub kept : (n : ℕ) → Each (StandsFor ns qs n) (state' n).kept
  pub known : (a y j : ℕ) → place_of (a, y) ns ≡ Some j → y < (state' a).next
  pub settled : (j : ℕ) (q : Packet M) → slice_get qs j ≡ Some q → (delivered j ≡ true) ⊎ IsKept ns j q (state' q.source).kept

-- a function with two values in one place
put-cases : {A : Type 0} (P : ℕ → A → Type 0) (f : ℕ → A) (n : ℕ) (a : A) → P n a → ((k : ℕ) → P k (f k)) → (k : ℕ) → P k (put f n a k)
put-cases P f n a here there k = elim (cases_eq k n) [
  | inl same ↦ subst (P k) (sym (put-there f n a k same)) (subst (λ i. P i a) (sym same) here)
  | inr ne ↦ subst (P k) (sym (put-elsewhere f n a k ne)) (there k)
]

module _ {M : Type 0} where
  stands-on : (ns bs : List (ℕ × ℕ)) (qs rs : List (Packet M)) (a x d : ℕ) (c : M) → Stands ns qs a x d c → Stands (ns ++ bs) (qs ++ rs) a x d c
  stands-on ns bs qs rs a x d c h = record {
    place = h.place;
    found = place-kept (a, x) ns bs h.place h.found;
    there = slice_get_front qs rs h.place _ h.there;
  }

  content-on : (delivered : ℕ → Bool) (ns bs : List (ℕ × ℕ)) (qs rs : List (Packet M)) (a d : ℕ) (c : RetryMsg M) → HasContent delivered ns qs a d c → HasContent delivered (ns ++ bs) (qs ++ rs) a d c
  content-on delivered ns bs qs rs a d (msg.Data x c) h = stands-on ns bs qs rs a x d c h
  content-on delivered ns bs qs rs a d (msg.Ack x) h = record { place = h.place; found = place-kept (d, x) ns bs h.place h.found; was = h.was }

  content-delivered : (delivered more : ℕ → Bool) (ns : List (ℕ × ℕ)) (qs : List (Packet M)) (a d : ℕ) (c : RetryMsg M) → ((j : ℕ) → delivered j ≡ true → more j ≡ true) → HasContent delivered ns qs a d c → HasContent more ns qs a d c
  content-delivered delivered more ns qs a d (msg.Data x c) so h = h
  content-delivered delivered more ns qs a d (msg.Ack x) so h = record { place = h.place; found = h.found; was = so h.place h.was }

  keeps-on : (ns bs : List (ℕ × ℕ)) (j : ℕ) (q : Packet M) (k : Kept M) → Keeps ns j q k → Keeps (ns ++ bs) j q k
  keeps-on ns bs j q k h = record { place = place-kept (q.source, k.number) ns bs j h.place; destination = h.destination; content = h.content }

  kept-on : (ns bs : List (ℕ × ℕ)) (j : ℕ) (q : Packet M) (ks : List (Kept M)) → IsKept ns j q ks → IsKept (ns ++ bs) j q ks
  kept-on ns bs j q [] h = h
  kept-on ns bs j q (k ∷ ks) (inl h) = inl (keeps-on ns bs j q k h)
  kept-on ns bs j q (k ∷ ks) (inr h) = inr (kept-on ns bs j q ks h)

  kept-left : (ns : List (ℕ × ℕ)) (j : ℕ) (q : Packet M) (ks ls : List (Kept M)) → IsKept ns j q ks → IsKept ns j q (ks ++ ls)
  kept-left ns j q [] ls h = absurd h
  kept-left ns j q (k ∷ ks) ls (inl h) = inl h
  kept-left ns j q (k ∷ ks) ls (inr h) = inr (kept-left ns j q ks ls h)

  kept-right : (ns : List (ℕ × ℕ)) (j : ℕ) (q : Packet M) (ks ls : List (Kept M)) → IsKept ns j q ls → IsKept ns j q (ks ++ ls)
  kept-right ns j q [] ls h = h
  kept-right ns j q (k ∷ ks) ls h = inr (kept-right ns j q ks ls h)

  kept-rotated : (ns : List (ℕ × ℕ)) (j : ℕ) (q : Packet M) (ks : List (Kept M)) → IsKept ns j q ks → IsKept ns j q (rotated ks)
  kept-rotated ns j q [] h = h
  kept-rotated ns j q (k ∷ ks) (inl h) = kept-right ns j q ks (k ∷ []) (inl h)
  kept-rotated ns j q (k ∷ ks) (inr h) = kept-left ns j q ks (k ∷ []) h

  each-changed : (P : Packet (RetryMsg M) → Type 0) (f : Packet (RetryMsg M) → Packet (RetryMsg M)) → ((p : Packet (RetryMsg M)) → P p → P (f p)) → (k : ℕ) (ps : List (Packet (RetryMsg M))) → Each P ps → Each P (change_at f k ps)
  each-changed P f so k [] h = tt
  each-changed P f so zero (p ∷ ps) h = (so p h.0, h.1)
  each-changed P f so (suc k) (p ∷ ps) h = (h.0, each-changed P f so k ps h.1)

  -- what was just sent stands for itself
  new-stand : (ns : List (ℕ × ℕ)) (qs : List (Packet M)) (n x : ℕ) (ss : List (ℕ × M)) → length ns ≡ length qs → IsUnused ns n x → Each (StandsFor (ns ++ fresh n x ss) (qs ++ sent_by n ss) n) (numbered_from x ss)
  new-stand ns qs n x [] same unused = tt
  new-stand ns qs n x (s ∷ ss) same unused =
      let q : Packet M = record { source = n; destination = s.0; content = s.1; copies = 1 } in
      let more = new-stand (ns ++ (n, x) ∷ []) (qs ++ q ∷ []) n (x + 1) ss (omega (arith, same, length-append ns ((n, x) ∷ []), length-append qs (q ∷ []))) (unused-next ns n x unused) in (
        record {
          place = length ns;
          found = place-there (n, x) ns (fresh n (x + 1) ss) (unused x (omega arith));
          there = ap (slice_get (qs ++ q ∷ sent_by n ss)) same ∙ slice_get_seam qs q (sent_by n ss);
        },
        subst (λ (e : List (ℕ × ℕ) × List (Packet M)). Each (StandsFor e.0 e.1 n) (numbered_from (x + 1) ss))
            (λ i. (append_assoc ns ((n, x) ∷ []) (fresh n (x + 1) ss) i, append_assoc qs (q ∷ []) (sent_by n ss) i)) more,
      )

  -- and is carried
  data-carry : (delivered : ℕ → Bool) (ns : List (ℕ × ℕ)) (qs : List (Packet M)) (n : ℕ) (ks : List (Kept M)) → Each (StandsFor ns qs n) ks → Each (Carries delivered ns qs) (sent_by n (all_as_data ks))
  data-carry delivered ns qs n [] h = tt
  data-carry delivered ns qs n (k ∷ ks) h = (h.0, data-carry delivered ns qs n ks h.1)

  -- and is kept
  new-kept : (ns : List (ℕ × ℕ)) (n x : ℕ) (ss : List (ℕ × M)) (i : ℕ) (q : Packet M) → IsUnused ns n x → slice_get (sent_by n ss) i ≡ Some q
      → (q.source ≡ n) × IsKept (ns ++ fresh n x ss) (length ns + i) q (numbered_from x ss)
  new-kept ns n x [] i q unused at = absurd (none-some q at)
  new-kept ns n x (s ∷ ss) zero q unused at =
      let same : record { source = n; destination = s.0; content = s.1; copies = 1 } ≡ q = same_Some _ q at in (
        sym (ap (λ r. r.source) same),
        inl (record {
          place = ap (λ r. place_of (r.source, x) (ns ++ fresh n x (s ∷ ss))) (sym same) ∙ place-there (n, x) ns (fresh n (x + 1) ss) (unused x (omega arith)) ∙ ap Some (omega arith);
          destination = ap (λ r. r.destination) same;
          content = ap (λ r. r.content) same;
        }),
      )
  new-kept ns n x (s ∷ ss) (suc i) q unused at =
      let more = new-kept (ns ++ (n, x) ∷ []) n (x + 1) ss i q (unused-next ns n x unused) at in
      let place : length (ns ++ (n, x) ∷ []) + i ≡ length ns + suc i = omega (arith, length-append ns ((n, x) ∷ [])) in (
        more.0,
        inr (subst (λ (e : List (ℕ × ℕ) × ℕ). IsKept e.0 e.1 q (numbered_from (x + 1) ss)) (λ j. (append_assoc ns ((n, x) ∷ []) (fresh n (x + 1) ss) j, place j)) more.1),
      )

-- the handlers within make something of an event at a node: each of their packets gets the next number, and is kept
module _ {S O M : Type 0} (delivered : ℕ → Bool) (ns : List (ℕ × ℕ)) (state' : ℕ → Retrying S M) (ps : List (Packet (RetryMsg M))) (state : ℕ → S) (qs : List (Packet M))
    (h : Tied delivered ns state' ps state qs) (n : ℕ) (e : Effect S O M) where
  abbrev x : ℕ
  x = (state' n).next

  abbrev made : Effect (Retrying S M) O (RetryMsg M)
  made = kept_and_sent (state' n) e

  abbrev then' : ℕ → Retrying S M
  then' = put state' n made.state

  abbrev as2 : List (ℕ × ℕ)
  as2 = ns ++ fresh n x e.sends

  abbrev qs2 : List (Packet M)
  qs2 = qs ++ sent_by n e.sends

  unused-none : (y : ℕ) → x ≤ y → (o : Option ℕ) → place_of (n, y) ns ≡ o → o ≡ None
  unused-none y le None at = refl
  unused-none y le (Some j) at = absurd (omega (arith, le, h.known n y j at))

  unused : IsUnused ns n x
  unused y le = unused-none y le (place_of (n, y) ns) refl

  next-grows : (k : ℕ) → (state' k).next ≤ (then' k).next
  next-grows k = put-cases (λ i s. (state' i).next ≤ s.next) state' n made.state (omega arith) (λ i. omega arith) k

  known-cases : (a y j : ℕ) → place_of (a, y) as2 ≡ Some j → (o : Option ℕ) → place_of (a, y) ns ≡ o → y < (then' a).next
  known-cases a y j at None none =
      let new = fresh-known ns n x e.sends a y j at none in
      let here : then' a ≡ made.state = put-there state' n made.state a new.0 in
      rw here (omega (arith, new.1))
  known-cases a y j at (Some i) old = let grows = next-grows a in omega (arith, h.known a y i old, grows)

  new-ones : Each (StandsFor as2 qs2 n) (numbered_from x e.sends)
  new-ones = new-stand ns qs n x e.sends h.counted unused

  old-ones : (k : ℕ) → Each (StandsFor as2 qs2 k) (state' k).kept
  old-ones k = each_weaker (StandsFor ns qs k) (StandsFor as2 qs2 k) (λ i s. stands-on ns (fresh n x e.sends) qs (sent_by n e.sends) k i.number i.destination i.content s) (state' k).kept (h.kept k)

  still-kept : (j : ℕ) (q : Packet M) → IsKept ns j q (state' q.source).kept → IsKept as2 j q (then' q.source).kept
  still-kept j q was =
      put-cases (λ i s. i ≡ q.source → IsKept as2 j q s.kept) state' n made.state
      (λ same. kept-left as2 j q (state' n).kept (numbered_from x e.sends) (subst (λ i. IsKept as2 j q (state' i).kept) (sym same) (kept-on ns (fresh n x e.sends) j q (state' q.source).kept was)))
      (λ i same. subst (λ l. IsKept as2 j q (state' l).kept) (sym same) (kept-on ns (fresh n x e.sends) j q (state' q.source).kept was)) q.source refl

  settle-old : (j : ℕ) (q : Packet M) → (delivered j ≡ true) ⊎ IsKept ns j q (state' q.source).kept → (delivered j ≡ true) ⊎ IsKept as2 j q (then' q.source).kept
  settle-old j q (inl was) = inl was
  settle-old j q (inr was) = inr (still-kept j q was)

  settle-new : (j i : ℕ) (q : Packet M) → j ≡ length qs + i → slice_get (sent_by n e.sends) i ≡ Some q → IsKept as2 j q (then' q.source).kept
  settle-new j i q place at =
      let new = new-kept ns n x e.sends i q unused at in
      let here : then' q.source ≡ made.state = put-there state' n made.state q.source new.0 in
      let same : length ns + i ≡ j = omega (arith, place, h.counted) in
      rw here (kept-right as2 j q (state' n).kept (numbered_from x e.sends) (subst (λ l. IsKept as2 l q (numbered_from x e.sends)) same new.1))

  pub tied-event : Tied delivered as2 then' (ps ++ sent_by n made.sends) (put state n e.state) qs2
  tied-event = record {
    named = names-append [] ps (sent_by n made.sends) ∙ (ap (λ bs. names_after bs (sent_by n made.sends)) h.named ∙ names-fresh ns n x e.sends unused);
    states = λ k. elim (cases_eq k n) [
      | inl same ↦ ap (λ s. s.inner) (put-there state' n made.state k same) ∙ sym (put-there state n e.state k same)
      | inr ne ↦ ap (λ s. s.inner) (put-elsewhere state' n made.state k ne) ∙ (h.states k ∙ sym (put-elsewhere state n e.state k ne))
    ];
    counted = omega (arith, h.counted, length-append ns (fresh n x e.sends), length-append qs (sent_by n e.sends), length-fresh n x e.sends, length-sent e.sends);
    carried = each_append (Carries delivered as2 qs2) ps (sent_by n made.sends)
        (each_weaker (Carries delivered ns qs) (Carries delivered as2 qs2) (λ p c. content-on delivered ns (fresh n x e.sends) qs (sent_by n e.sends) p.source p.destination p.content c) ps h.carried)
        (data-carry delivered as2 qs2 n (numbered_from x e.sends) new-ones);
    kept = put-cases (λ k s. Each (StandsFor as2 qs2 k) s.kept) state' n made.state
        (each_append (StandsFor as2 qs2 n) (state' n).kept (numbered_from x e.sends) (old-ones n) new-ones) old-ones;
    known = λ a y j at. known-cases a y j at (place_of (a, y) ns) refl;
    settled = λ j q at. elim (slice_get_either qs (sent_by n e.sends) j q at) [
      | inl old ↦ settle-old j q (h.settled j q old)
      | inr new ↦ inr (settle-new j new.0 q new.1 new.2)
    ];
  } where
    length-sent : (ss : List (ℕ × M)) → length (sent_by n ss) ≡ length ss
    length-sent [] = refl
    length-sent (s ∷ ss) = ap suc (length-sent ss)

module _ {S M : Type 0} (delivered : ℕ → Bool) (ns : List (ℕ × ℕ)) (state' : ℕ → Retrying S M) (ps : List (Packet (RetryMsg M))) (state : ℕ → S) (qs : List (Packet M)) (h : Tied delivered ns state' ps state qs) where
  -- packets that the network copies or loses
  pub tied-changed : (f : Packet (RetryMsg M) → Packet (RetryMsg M)) → ((p : Packet (RetryMsg M)) (bs : List (ℕ × ℕ)) → with_content (f p).source (f p).content bs ≡ with_content p.source p.content bs)
      → ((p : Packet (RetryMsg M)) → Carries delivered ns qs p → Carries delivered ns qs (f p)) → (k : ℕ) → Tied delivered ns state' (change_at f k ps) state qs
  tied-changed f same carries k = record {
    named = names-changed f same k [] ps ∙ h.named;
    states = h.states;
    counted = h.counted;
    carried = each-changed (Carries delivered ns qs) f carries k ps h.carried;
    kept = h.kept;
    known = h.known;
    settled = h.settled;
  }

  -- more is delivered
  pub tied-delivered : (more : ℕ → Bool) → ((j : ℕ) → delivered j ≡ true → more j ≡ true) → Tied more ns state' ps state qs
  tied-delivered more so = record {
    named = h.named;
    states = h.states;
    counted = h.counted;
    carried = each_weaker (Carries delivered ns qs) (Carries more ns qs) (λ p c. content-delivered delivered more ns qs p.source p.destination p.content so c) ps h.carried;
    kept = h.kept;
    known = h.known;
    settled = λ j q at. elim (h.settled j q at) [
      | inl was ↦ inl (so j was)
      | inr keeps ↦ inr keeps
    ];
  }

  -- a number that was delivered is acknowledged
  pub tied-acknowledged : (n to number : ℕ) → WasDelivered delivered ns to number → Tied delivered ns state' (ps ++ sent_by n ((to, msg.Ack number) ∷ [])) state qs
  tied-acknowledged n to number was = record {
    named = names-append [] ps (sent_by n ((to, msg.Ack number) ∷ [])) ∙ h.named;
    states = h.states;
    counted = h.counted;
    carried = each_append (Carries delivered ns qs) ps (sent_by n ((to, msg.Ack number) ∷ [])) h.carried (was, tt);
    kept = h.kept;
    known = h.known;
    settled = h.settled;
  }

  -- the first that a node keeps is sent again, and goes to the end
  module _ (n : ℕ) (k : Kept M) (ks : List (Kept M)) (first : (state' n).kept ≡ k ∷ ks) where
    abbrev turned : Retrying S M
    turned = record { inner = (state' n).inner; next = (state' n).next; kept = rotated (state' n).kept }

    stands : StandsFor ns qs n k
    stands = (subst (Each (StandsFor ns qs n)) first (h.kept n)).0

    pub tied-resent : Tied delivered ns (put state' n turned) (ps ++ sent_by n (as_data k ∷ [])) state qs
    tied-resent = record {
      named = names-append [] ps (sent_by n (as_data k ∷ [])) ∙ (ap (λ bs. names_after bs (sent_by n (as_data k ∷ []))) h.named ∙ with-known (n, k.number) ns stands.place stands.found);
      states = put-cases (λ i s. s.inner ≡ state i) state' n turned (h.states n) h.states;
      counted = h.counted;
      carried = each_append (Carries delivered ns qs) ps (sent_by n (as_data k ∷ [])) h.carried (stands, tt);
      kept = put-cases (λ i s. Each (StandsFor ns qs i) s.kept) state' n turned (each-rotated (StandsFor ns qs n) (state' n).kept (h.kept n)) h.kept;
      known = λ a y j at. put-cases (λ i s. i ≡ a → y < s.next) state' n turned (λ same. h.known n y j (subst (λ i. place_of (i, y) ns ≡ Some j) (sym same) at))
          (λ i same. h.known i y j (subst (λ l. place_of (l, y) ns ≡ Some j) (sym same) at)) a refl;
      settled = λ j q at. elim (h.settled j q at) [
        | inl was ↦ inl was
        | inr keeps ↦ inr (put-cases (λ i s. i ≡ q.source → IsKept ns j q s.kept) state' n turned
            (λ same. kept-rotated ns j q (state' n).kept (subst (λ i. IsKept ns j q (state' i).kept) (sym same) keeps))
            (λ i same. subst (λ l. IsKept ns j q (state' l).kept) (sym same) keeps) q.source refl)
      ];
    }

  -- a node drops what was acknowledged
  module _ (n from number : ℕ) (was : WasDelivered delivered ns n number) where
    abbrev freed : Retrying S M
    freed = record { inner = (state' n).inner; next = (state' n).next; kept = acknowledged from number (state' n).kept }

    meant-number : (b c : Bool) → (b && c) ≡ true → b ≡ true
    meant-number true c e = refl
    meant-number false c e = e

    kept-choice : (j : ℕ) (q : Packet M) (k : Kept M) (ks : List (Kept M)) (b : Bool) → is_meant from number k ≡ b → q.source ≡ n → Keeps ns j q k → (delivered j ≡ true) ⊎ IsKept ns j q (cond (not b) (k ∷ ks) ks)
    kept-choice j q k ks true is here keeps =
        let same : k.number ≡ number = eqb-true k.number number (meant-number (k.number == number) (k.destination == from) is) in
        let place : place_of (n, number) ns ≡ Some j = (λ i. place_of (sym here i, sym same i) ns) ∙ keeps.place in
        let one : was.place ≡ j = same_Some was.place j (sym was.found ∙ place) in
        inl (subst (λ i. delivered i ≡ true) one was.was)
    kept-choice j q k ks false is here keeps = inr (inl keeps)

    kept-more : (j : ℕ) (q : Packet M) (b : Bool) (k : Kept M) (ks : List (Kept M)) → (delivered j ≡ true) ⊎ IsKept ns j q ks → (delivered j ≡ true) ⊎ IsKept ns j q (cond b (k ∷ ks) ks)
    kept-more j q true k ks (inl d) = inl d
    kept-more j q true k ks (inr keeps) = inr (inr keeps)
    kept-more j q false k ks either = either

    still : (j : ℕ) (q : Packet M) (ks : List (Kept M)) → q.source ≡ n → IsKept ns j q ks → (delivered j ≡ true) ⊎ IsKept ns j q (acknowledged from number ks)
    still j q [] here keeps = absurd keeps
    still j q (k ∷ ks) here (inl keeps) = kept-choice j q k (acknowledged from number ks) (is_meant from number k) refl here keeps
    still j q (k ∷ ks) here (inr keeps) = kept-more j q (not (is_meant from number k)) k (acknowledged from number ks) (still j q ks here keeps)

    pub tied-freed : Tied delivered ns (put state' n freed) ps state qs
    tied-freed = record {
      named = h.named;
      states = put-cases (λ i s. s.inner ≡ state i) state' n freed (h.states n) h.states;
      counted = h.counted;
      carried = h.carried;
      kept = put-cases (λ i s. Each (StandsFor ns qs i) s.kept) state' n freed (each-acknowledged (StandsFor ns qs n) from number (state' n).kept (h.kept n)) h.kept;
      known = λ a y j at. put-cases (λ i s. i ≡ a → y < s.next) state' n freed (λ same. h.known n y j (subst (λ i. place_of (i, y) ns ≡ Some j) (sym same) at))
          (λ i same. h.known i y j (subst (λ l. place_of (l, y) ns ≡ Some j) (sym same) at)) a refl;
      settled = λ j q at. elim (h.settled j q at) [
        | inl d ↦ inl d
        | inr keeps ↦ put-cases (λ i s. i ≡ q.source → (delivered j ≡ true) ⊎ IsKept ns j q s.kept) state' n freed
            (λ same. still j q (state' n).kept (sym same) (subst (λ i. IsKept ns j q (state' i).kept) (sym same) keeps))
            (λ i same. inr (subst (λ l. IsKept ns j q (state' l).kept) (sym same) keeps)) q.source refl
      ];
    }
