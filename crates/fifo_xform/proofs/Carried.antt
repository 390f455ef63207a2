-- How the packets of handlers whose messages come in order stand for those of the handlers within.
use Rattle.std.specs.Prelude.{◌≡◌, ◌≢◌, ◌⊎◌, ℕ, zero, suc, ◌-◌, ◌<◌, ◌≤◌, nat_lt, cond, true, false, List, [], ◌∷◌, ◌++◌, length, map, Some, slice_get, refl}
use Rattle.std.specs.FinMap as finite
use Rattle.std.proofs.Common.{ap, arith, sym, subst, ◌∙◌, inl, inr, append_assoc}
use Rattle.std.proofs.lemmas.Bool.{cases_eq}
use Rattle.std.proofs.lemmas.List.{append-nil, length-append}
use Rattle.std.proofs.lemmas.Option.{none-some, same_Some}
use Rattle.vst_base.specs.declared.seq.SeqMsg.{SeqMsg}
use Rattle.net_semantics.specs.Worlds.{Packet, put, change_at, one_less, sent_by}
use Rattle.net_semantics.proofs.Places.{change_at-there, change_at-elsewhere, length-change_at, put-there, put-elsewhere}
use Rattle.fifo_xform.specs.Peers.{Peers, peer_of, counting, passing, holding}
use Rattle.fifo_xform.specs.Fifo.{counted, numbered_by}
use Rattle.fifo_xform.proofs.PeerFacts.{next-counting, expected-counting, held-counting, next-passing, held-passing, next-holding, expected-holding, held-holding, next-counted, expected-passed, expected-others}

-- a packet of a list that grew by one is an old one or the new one
pub at-grown : {X : Type 0} (xs : List X) (y : X) (k : ℕ) (x : X) → slice_get (xs ++ y ∷ []) k ≡ Some x → ((slice_get xs k ≡ Some x) × (k < length xs)) ⊎ ((k ≡ length xs) × (y ≡ x))
at-grown [] y zero x e = inr (refl, same_Some y x e)
at-grown [] y (suc k) x e = absurd (none-some x e)
at-grown (z ∷ xs) y zero x e = inl (e, omega arith)
at-grown (z ∷ xs) y (suc k) x e = elim (at-grown xs y k x e) [
  | inl old ↦ inl (old.0, omega (arith, old.1))
  | inr new ↦ inr (omega (arith, new.0), new.1)
]

at-front : {X : Type 0} (xs ys : List X) (k : ℕ) (x : X) → slice_get xs k ≡ Some x → slice_get (xs ++ ys) k ≡ Some x
at-front [] ys k x e = absurd (none-some x e)
at-front (z ∷ xs) ys zero x e = e
at-front (z ∷ xs) ys (suc k) x e = at-front xs ys k x e

pub at-within : {X : Type 0} (xs : List X) (k : ℕ) (x : X) → slice_get xs k ≡ Some x → k < length xs
at-within [] k x e = absurd (none-some x e)
at-within (z ∷ xs) zero x e = omega arith
at-within (z ∷ xs) (suc k) x e = omega (arith, at-within xs k x e)

at-within-other : {X Y : Type 0} (xs : List X) (ys : List Y) (k : ℕ) (y : Y) → length xs ≡ length ys → slice_get ys k ≡ Some y → (x : X) × (slice_get xs k ≡ Some x)
at-within-other [] [] k y same e = absurd (none-some y e)
at-within-other [] (b ∷ ys) k y same e = absurd (omega (arith, same))
at-within-other (a ∷ xs) [] k y same e = absurd (omega (arith, same))
at-within-other (a ∷ xs) (b ∷ ys) zero y same e = (a, refl)
at-within-other (a ∷ xs) (b ∷ ys) (suc k) y same e = at-within-other xs ys k y (omega (arith, same)) e

pub not-below : (x y : ℕ) → y ≤ x → nat_lt x y ≡ false
not-below x y le = grind arith

pub is-below : (x y : ℕ) → x < y → nat_lt x y ≡ true
is-below x y lt = grind arith

-- the next number is compared as before, but at the number itself
pub below-more : (x e : ℕ) → x ≢ e → nat_lt x (suc e) ≡ nat_lt x e
below-more x e ne = grind arith

module _ {M : Type 0} where
  -- what the packets say, whatever copies are in flight
  abbrev pub bare : Packet (SeqMsg M) → Packet (SeqMsg M)
  bare p = record { source = p.source; destination = p.destination; content = p.content; copies = 0 }

  abbrev pub bares : List (Packet (SeqMsg M)) → List (Packet (SeqMsg M))
  bares ps = map bare ps

  -- a packet and the one of the handlers within, which was given where its number is below this one
  pub record Carries (expected : ℕ) (p : Packet (SeqMsg M)) (q : Packet M) : Type 0 where
    pub source : p.source ≡ q.source
    pub destination : p.destination ≡ q.destination
    pub content : p.content.inner ≡ q.content
    pub copies : q.copies ≡ cond (nat_lt p.content.number expected) 0 1

  -- the packet that went from a to d with number x and this content
  pub record WasSent (ps : List (Packet (SeqMsg M))) (a d x : ℕ) (c : M) : Type 0 where
    pub place : ℕ
    pub packet : Packet (SeqMsg M)
    pub there : slice_get ps place ≡ Some packet
    pub source : packet.source ≡ a
    pub destination : packet.destination ≡ d
    pub number : packet.content.number ≡ x
    pub says : packet.content.inner ≡ c

  -- what each node keeps of the others, the packets that were sent, and those of the handlers within
  pub record Kept (f : ℕ → Peers M) (ps : List (Packet (SeqMsg M))) (qs : List (Packet M)) : Type 0 where
    pub lengths : length ps ≡ length qs
    pub carried : (k : ℕ) (p : Packet (SeqMsg M)) (q : Packet M) → slice_get ps k ≡ Some p → slice_get qs k ≡ Some q → Carries (peer_of (f p.destination) p.source).expected p q
    pub rising : (j k : ℕ) (p1 p2 : Packet (SeqMsg M)) → j < k → slice_get ps j ≡ Some p1 → slice_get ps k ≡ Some p2 → p1.source ≡ p2.source → p1.destination ≡ p2.destination
        → p1.content.number < p2.content.number
    pub below : (k : ℕ) (p : Packet (SeqMsg M)) → slice_get ps k ≡ Some p → p.content.number < (peer_of (f p.source) p.destination).next
    pub held : (d a x : ℕ) (c : M) → finite.get (peer_of (f d) a).held x ≡ Some c → WasSent ps a d x c
    pub known : (d a : ℕ) → (peer_of (f d) a).expected ≤ (peer_of (f a) d).next

  -- g is f with this at n
  pub record At (f g : ℕ → Peers M) (n : ℕ) (new : Peers M) : Type 0 where
    pub there : g n ≡ new
    pub elsewhere : (k : ℕ) → k ≢ n → g k ≡ f k

  pub at-put : (f : ℕ → Peers M) (n : ℕ) (new : Peers M) → At f (put f n new) n new
  at-put f n new = record { there = put-there f n new n refl; elsewhere = λ k ne. put-elsewhere f n new k ne }

  -- what is known at each node, where it is known at the one that changed
  at-each : (P : ℕ → Peers M → Peers M → Type 0) (f g : ℕ → Peers M) (n : ℕ) (new : Peers M) → At f g n new → P n (f n) new → ((k : ℕ) → P k (f k) (f k)) → (k : ℕ) → P k (f k) (g k)
  at-each P f g n new at changed same k = elim (cases_eq k n) [
    | inl here ↦ let is : g k ≡ new = ap g here ∙ at.there in rw (is, here) changed
    | inr ne ↦ rw (at.elsewhere k ne) (same k)
  ]

  pub kept-same : (f g : ℕ → Peers M) (n : ℕ) (ps : List (Packet (SeqMsg M))) (qs : List (Packet M)) → Kept f ps qs → At f g n (f n) → Kept g ps qs
  kept-same f g n ps qs h at =
      let same : f ≡ g = λ i k. at-each (λ _ old new. old ≡ new) f g n (f n) at refl (λ _. refl) k i in
      subst (λ x. Kept x ps qs) same h

  -- no two packets of a sender to one node have one number
  pub apart : (f : ℕ → Peers M) (ps : List (Packet (SeqMsg M))) (qs : List (Packet M)) → Kept f ps qs → (j k : ℕ) (p1 p2 : Packet (SeqMsg M)) → slice_get ps j ≡ Some p1 → slice_get ps k ≡ Some p2
      → p1.source ≡ p2.source → p1.destination ≡ p2.destination → p1.content.number ≡ p2.content.number → j ≡ k
  apart f ps qs h j k p1 p2 at_j at_k source destination number = elim (cases_eq (k - j) 0) [
    | inl le ↦ elim (cases_eq (j - k) 0) [
      | inl ge ↦ omega (arith, le, ge)
      | inr gt ↦ let rises = h.rising k j p2 p1 (omega (arith, gt)) at_k at_j (sym source) (sym destination) in absurd (omega (arith, rises, number))
    ]
    | inr lt ↦ let rises = h.rising j k p1 p2 (omega (arith, lt)) at_j at_k source destination in absurd (omega (arith, rises, number))
  ]

  -- a packet is sent from n to d
  module _ (f g : ℕ → Peers M) (ps : List (Packet (SeqMsg M))) (qs : List (Packet M)) (h : Kept f ps qs) (n d : ℕ) (content : M) (at : At f g n (counting (f n) d)) where
    abbrev number : ℕ
    number = (peer_of (f n) d).next

    abbrev new_packet : Packet (SeqMsg M)
    new_packet = record { source = n; destination = d; content = record { number = number; inner = content }; copies = 0 }

    abbrev new_within : Packet M
    new_within = record { source = n; destination = d; content = content; copies = 1 }

    next-grows : (a b : ℕ) → (peer_of (f a) b).next ≤ (peer_of (g a) b).next
    next-grows a b = at-each (λ _ old new. (peer_of old b).next ≤ (peer_of new b).next) f g n (counting (f n) d) at (next-counting (f n) d b) (λ _. omega arith) a

    expected-stays : (a b : ℕ) → (peer_of (g a) b).expected ≡ (peer_of (f a) b).expected
    expected-stays a b = at-each (λ _ old new. (peer_of new b).expected ≡ (peer_of old b).expected) f g n (counting (f n) d) at (expected-counting (f n) d b) (λ _. refl) a

    held-stays : (a b : ℕ) → (peer_of (g a) b).held ≡ (peer_of (f a) b).held
    held-stays a b = at-each (λ _ old new. (peer_of new b).held ≡ (peer_of old b).held) f g n (counting (f n) d) at (held-counting (f n) d b) (λ _. refl) a

    next-here : (peer_of (g n) d).next ≡ suc number
    next-here = ap (λ x. (peer_of x d).next) at.there ∙ next-counted (f n) d

    send-carries : (k : ℕ) (p : Packet (SeqMsg M)) (q : Packet M) → slice_get (ps ++ new_packet ∷ []) k ≡ Some p → slice_get (qs ++ new_within ∷ []) k ≡ Some q
        → Carries (peer_of (g p.destination) p.source).expected p q
    send-carries k p q at_p at_q = elim (at-grown ps new_packet k p at_p) [
      | inl old ↦ elim (at-grown qs new_within k q at_q) [
        | inl old_q ↦ rw (expected-stays p.destination p.source) (h.carried k p q old.0 old_q.0)
        | inr new_q ↦ absurd (omega (arith, old.1, new_q.0, h.lengths))
      ]
      | inr new ↦ elim (at-grown qs new_within k q at_q) [
        | inl old_q ↦ absurd (omega (arith, old_q.1, new.0, h.lengths))
        | inr new_q ↦
            let fresh : nat_lt number (peer_of (g d) n).expected ≡ false = not-below number (peer_of (g d) n).expected (omega (arith, expected-stays d n, h.known d n)) in
            let here : Carries (peer_of (g d) n).expected new_packet new_within = record { source = refl; destination = refl; content = refl; copies = ap (λ b. cond b 0 1) (sym fresh) } in
            subst (λ (x : Packet (SeqMsg M)). Carries (peer_of (g x.destination) x.source).expected x q) new.1
            (subst (λ (y : Packet M). Carries (peer_of (g d) n).expected new_packet y) new_q.1 here)
      ]
    ]

    new-number : (p : Packet (SeqMsg M)) → new_packet ≡ p → (p.source ≡ n) × (p.destination ≡ d) × (p.content.number ≡ number)
    new-number p e = (sym (ap (λ x. x.source) e), sym (ap (λ x. x.destination) e), sym (ap (λ x. x.content.number) e))

    send-rising : (j k : ℕ) (p1 p2 : Packet (SeqMsg M)) → j < k → slice_get (ps ++ new_packet ∷ []) j ≡ Some p1 → slice_get (ps ++ new_packet ∷ []) k ≡ Some p2
        → p1.source ≡ p2.source → p1.destination ≡ p2.destination → p1.content.number < p2.content.number
    send-rising j k p1 p2 lt at_j at_k source destination = elim (at-grown ps new_packet j p1 at_j) [
      | inl old_j ↦ elim (at-grown ps new_packet k p2 at_k) [
        | inl old_k ↦ h.rising j k p1 p2 lt old_j.0 old_k.0 source destination
        | inr new_k ↦
            let is = new-number p2 new_k.1 in
            let below : p1.content.number < (peer_of (f n) d).next = rw (← (source ∙ is.0), ← (destination ∙ is.1)) (h.below j p1 old_j.0) in
            omega (arith, below, is.2)
      ]
      | inr new_j ↦ elim (at-grown ps new_packet k p2 at_k) [
        | inl old_k ↦ absurd (omega (arith, new_j.0, old_k.1, lt))
        | inr new_k ↦ absurd (omega (arith, new_j.0, new_k.0, lt))
      ]
    ]

    pub kept-sent : Kept g (ps ++ new_packet ∷ []) (qs ++ new_within ∷ [])
    kept-sent = record {
      lengths = omega (arith, h.lengths, length-append ps (new_packet ∷ []), length-append qs (new_within ∷ []));
      carried = send-carries;
      rising = send-rising;
      below = λ k p at_k. elim (at-grown ps new_packet k p at_k) [
        | inl old ↦ omega (arith, h.below k p old.0, next-grows p.source p.destination)
        | inr new ↦ subst (λ (x : Packet (SeqMsg M)). x.content.number < (peer_of (g x.source) x.destination).next) new.1 (omega (arith, next-here))
      ];
      held = λ b a x c e.
          let was = h.held b a x c (ap (λ m. finite.get m x) (sym (held-stays b a)) ∙ e) in
          record {
            place = was.place;
            packet = was.packet;
            there = at-front ps (new_packet ∷ []) was.place was.packet was.there;
            source = was.source;
            destination = was.destination;
            number = was.number;
            says = was.says;
          };
      known = λ b a. omega (arith, h.known b a, next-grows a b, expected-stays b a);
    }

  -- a node sends several
  pub kept-event : (sends : List (ℕ × M)) (n : ℕ) (f g : ℕ → Peers M) (ps : List (Packet (SeqMsg M))) (qs : List (Packet M)) (before : Peers M) → Kept f ps qs → f n ≡ before → At f g n (counted before sends)
      → Kept g (ps ++ bares (sent_by n (numbered_by before sends))) (qs ++ sent_by n sends)
  kept-event [] n f g ps qs before h is at =
      rw (append-nil ps, append-nil qs) (kept-same f g n ps qs h (record { there = at.there ∙ sym is; elsewhere = at.elsewhere }))
  kept-event (s ∷ ss) n f g ps qs before h is at =
      let one : ℕ → Peers M = put f n (counting before s.0) in
      let sent = kept-sent f one ps qs h n s.0 s.1 (record { there = put-there f n (counting before s.0) n refl ∙ ap (λ b. counting b s.0) (sym is); elsewhere = λ k ne. put-elsewhere f n (counting before s.0) k ne }) in
      let first : Packet (SeqMsg M) = record { source = n; destination = s.0; content = record { number = (peer_of before s.0).next; inner = s.1 }; copies = 0 } in
      let first_within : Packet M = record { source = n; destination = s.0; content = s.1; copies = 1 } in
      let sent_so : Kept one (ps ++ first ∷ []) (qs ++ first_within ∷ []) =
      subst (λ (x : Peers M). Kept one (ps ++ record { source = n; destination = s.0; content = record { number = (peer_of x s.0).next; inner = s.1 }; copies = 0 } ∷ []) (qs ++ first_within ∷ [])) is sent in
      let rest = kept-event ss n one g (ps ++ first ∷ []) (qs ++ first_within ∷ []) (counting before s.0) sent_so (put-there f n (counting before s.0) n refl)
      (record { there = at.there; elsewhere = λ k ne. at.elsewhere k ne ∙ sym (put-elsewhere f n (counting before s.0) k ne) }) in
      subst (λ (x : List (Packet (SeqMsg M)) × List (Packet M)). Kept g x.0 x.1)
      (λ i. (append_assoc ps (first ∷ []) (bares (sent_by n (numbered_by (counting before s.0) ss))) i, append_assoc qs (first_within ∷ []) (sent_by n ss) i)) rest

  -- a content is held, of a packet that was sent
  module _ (f g : ℕ → Peers M) (ps : List (Packet (SeqMsg M))) (qs : List (Packet M)) (h : Kept f ps qs) (k : ℕ) (p : Packet (SeqMsg M)) (there : slice_get ps k ≡ Some p)
      (at : At f g p.destination (holding (f p.destination) p.source p.content.number p.content.inner)) where
    abbrev put_holding : Peers M
    put_holding = holding (f p.destination) p.source p.content.number p.content.inner

    holding-expected-stays : (a b : ℕ) → (peer_of (g a) b).expected ≡ (peer_of (f a) b).expected
    holding-expected-stays a b = at-each (λ _ old x. (peer_of x b).expected ≡ (peer_of old b).expected) f g p.destination put_holding at (expected-holding (f p.destination) p.source b p.content.number p.content.inner) (λ _. refl) a

    holding-next-stays : (a b : ℕ) → (peer_of (g a) b).next ≡ (peer_of (f a) b).next
    holding-next-stays a b = at-each (λ _ old x. (peer_of x b).next ≡ (peer_of old b).next) f g p.destination put_holding at (next-holding (f p.destination) p.source b p.content.number p.content.inner) (λ _. refl) a

    holding-held-cases : (d a x : ℕ) (c : M) → finite.get (peer_of (g d) a).held x ≡ Some c
        → (finite.get (peer_of (f d) a).held x ≡ Some c) ⊎ ((d ≡ p.destination) × (a ≡ p.source) × (x ≡ p.content.number) × (p.content.inner ≡ c))
    holding-held-cases d a x c = at-each (λ j old y. finite.get (peer_of y a).held x ≡ Some c → (finite.get (peer_of old a).held x ≡ Some c) ⊎ ((j ≡ p.destination) × (a ≡ p.source) × (x ≡ p.content.number) × (p.content.inner ≡ c)))
        f g p.destination put_holding at
        (λ e. elim (held-holding (f p.destination) p.source a p.content.number p.content.inner x c e) [
          | inl old ↦ inl old
          | inr is ↦ inr (refl, is.0, is.1, is.2)
        ])
        (λ j e. inl e) d

    pub kept-held : Kept g ps qs
    kept-held = record {
      lengths = h.lengths;
      carried = λ j x q at_x at_q. rw (holding-expected-stays x.destination x.source) (h.carried j x q at_x at_q);
      rising = h.rising;
      below = λ j x at_x. rw (holding-next-stays x.source x.destination) (h.below j x at_x);
      held = λ d a x c e. elim (holding-held-cases d a x c e) [
        | inl old ↦ h.held d a x c old
        | inr new ↦ record { place = k; packet = p; there = there; source = sym new.1; destination = sym new.0; number = sym new.2; says = new.3 }
      ];
      known = λ d a. rw (holding-expected-stays d a, holding-next-stays a d) (h.known d a);
    }

  -- the expected content of a sender is given
  module _ (f g : ℕ → Peers M) (ps : List (Packet (SeqMsg M))) (qs : List (Packet M)) (h : Kept f ps qs) (k : ℕ) (p : Packet (SeqMsg M)) (there : slice_get ps k ≡ Some p)
      (is_next : p.content.number ≡ (peer_of (f p.destination) p.source).expected) (at : At f g p.destination (passing (f p.destination) p.source)) where
    abbrev put_giving : Peers M
    put_giving = passing (f p.destination) p.source

    giving-next-stays : (a b : ℕ) → (peer_of (g a) b).next ≡ (peer_of (f a) b).next
    giving-next-stays a b = at-each (λ _ old x. (peer_of x b).next ≡ (peer_of old b).next) f g p.destination put_giving at (next-passing (f p.destination) p.source b) (λ _. refl) a

    giving-held-cases : (d a x : ℕ) (c : M) → finite.get (peer_of (g d) a).held x ≡ Some c → finite.get (peer_of (f d) a).held x ≡ Some c
    giving-held-cases d a x c = at-each (λ _ old y. finite.get (peer_of y a).held x ≡ Some c → finite.get (peer_of old a).held x ≡ Some c) f g p.destination put_giving at (held-passing (f p.destination) p.source a x c) (λ _ e. e) d

    giving-expected-here : (d a : ℕ) → d ≡ p.destination → a ≡ p.source → (peer_of (g d) a).expected ≡ suc p.content.number
    giving-expected-here d a is_d is_a =
        ap (λ j. (peer_of (g j) a).expected) is_d
        ∙ (ap (λ b. (peer_of (g p.destination) b).expected) is_a
        ∙ (ap (λ x. (peer_of x p.source).expected) at.there
        ∙ (expected-passed (f p.destination) p.source ∙ ap suc (sym is_next))))

    giving-expected-elsewhere : (d a : ℕ) → (d ≡ p.destination → a ≢ p.source) → (peer_of (g d) a).expected ≡ (peer_of (f d) a).expected
    giving-expected-elsewhere d a ne = at-each (λ j old x. (j ≡ p.destination → a ≢ p.source) → (peer_of x a).expected ≡ (peer_of old a).expected) f g p.destination put_giving at
        (λ other. expected-others (f p.destination) p.source a (other refl)) (λ _ _. refl) d ne

    giving-expected-known : (d a : ℕ) → (peer_of (g d) a).expected ≤ (peer_of (f a) d).next
    giving-expected-known d a = elim (cases_eq d p.destination) [
      | inl is_d ↦ elim (cases_eq a p.source) [
        | inl is_a ↦ rw (giving-expected-here d a is_d is_a, is_d, is_a) (h.below k p there)
        | inr ne ↦ rw (giving-expected-elsewhere d a (λ _. ne)) (h.known d a)
      ]
      | inr ne ↦ rw (giving-expected-elsewhere d a (λ is. absurd (ne is))) (h.known d a)
    ]

    carries-same : (x : Packet (SeqMsg M)) (q : Packet M) → nat_lt x.content.number (peer_of (g x.destination) x.source).expected ≡ nat_lt x.content.number (peer_of (f x.destination) x.source).expected
        → Carries (peer_of (f x.destination) x.source).expected x q → Carries (peer_of (g x.destination) x.source).expected x q
    carries-same x q same c = record { source = c.source; destination = c.destination; content = c.content; copies = c.copies ∙ ap (λ b. cond b 0 1) (sym same) }

    -- another packet is given no more and no less
    other-same : (j : ℕ) (x : Packet (SeqMsg M)) → j ≢ k → slice_get ps j ≡ Some x → nat_lt x.content.number (peer_of (g x.destination) x.source).expected ≡ nat_lt x.content.number (peer_of (f x.destination) x.source).expected
    other-same j x ne at_x = elim (cases_eq x.destination p.destination) [
      | inl is_d ↦ elim (cases_eq x.source p.source) [
        | inl is_a ↦
            let differ : x.content.number ≢ p.content.number = λ e. ne (apart f ps qs h j k x p at_x there is_a is_d e) in
            let was : (peer_of (f x.destination) x.source).expected ≡ p.content.number = rw (is_d, is_a) (sym is_next) in
            rw (giving-expected-here x.destination x.source is_d is_a, was) (below-more x.content.number p.content.number differ)
        | inr other ↦ ap (nat_lt x.content.number) (giving-expected-elsewhere x.destination x.source (λ _. other))
      ]
      | inr other ↦ ap (nat_lt x.content.number) (giving-expected-elsewhere x.destination x.source (λ is. absurd (other is)))
    ]

    given-carries : (q : Packet M) → Carries (peer_of (f p.destination) p.source).expected p q → Carries (peer_of (g p.destination) p.source).expected p (one_less q)
    given-carries q c =
        let waits : nat_lt p.content.number (peer_of (f p.destination) p.source).expected ≡ false = not-below p.content.number _ (omega (arith, is_next)) in
        let one : q.copies ≡ 1 = c.copies ∙ ap (λ b. cond b 0 1) waits in
        let done : nat_lt p.content.number (peer_of (g p.destination) p.source).expected ≡ true = is-below p.content.number _ (omega (arith, giving-expected-here p.destination p.source refl refl)) in
        record { source = c.source; destination = c.destination; content = c.content; copies = ap (λ n. n - 1) one ∙ ap (λ b. cond b 0 1) (sym done) }

    carries : (j : ℕ) (x : Packet (SeqMsg M)) (q : Packet M) → slice_get ps j ≡ Some x → slice_get (change_at one_less k qs) j ≡ Some q → Carries (peer_of (g x.destination) x.source).expected x q
    carries j x q at_x at_q = elim (cases_eq j k) [
      | inl same ↦
          let old = at-within-other qs ps k p (sym h.lengths) there in
          let is_q : one_less old.0 ≡ q = same_Some (one_less old.0) q (sym (change_at-there one_less qs k old.0 old.1) ∙ (ap (slice_get (change_at one_less k qs)) (sym same) ∙ at_q)) in
          let is_x : p ≡ x = same_Some p x (sym there ∙ (ap (slice_get ps) (sym same) ∙ at_x)) in
          subst (λ (y : Packet (SeqMsg M)). Carries (peer_of (g y.destination) y.source).expected y q) is_x
          (subst (λ (y : Packet M). Carries (peer_of (g p.destination) p.source).expected p y) is_q (given-carries old.0 (h.carried k p old.0 there old.1)))
      | inr ne ↦
          carries-same x q (other-same j x ne at_x) (h.carried j x q at_x (sym (change_at-elsewhere one_less qs k j ne) ∙ at_q))
    ]

    pub kept-given : Kept g ps (change_at one_less k qs)
    kept-given = record {
      lengths = h.lengths ∙ sym (length-change_at one_less qs k);
      carried = carries;
      rising = h.rising;
      below = λ j x at_x. rw (giving-next-stays x.source x.destination) (h.below j x at_x);
      held = λ d a x c e. h.held d a x c (giving-held-cases d a x c e);
      known = λ d a. rw (giving-next-stays a d) (giving-expected-known d a);
    }
