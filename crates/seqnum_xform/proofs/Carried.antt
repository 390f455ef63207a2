-- How the packets of numbered handlers stand for those of the handlers within, where these packets were delivered.
use Rattle.std.specs.Prelude.{◌≡◌, ◌≢◌, ◌⊎◌, ℕ, zero, suc, ◌+◌, ◌<◌, ◌≤◌, Bool, true, false, List, [], ◌∷◌, ◌++◌, length, Option, Some, None, cond, slice_get, refl}
use Rattle.std.proofs.Common.{ap, arith, sym, subst, ◌∙◌, inl, inr}
use Rattle.std.proofs.lemmas.Bool.{cases_eq, false≢true}
use Rattle.vst_base.specs.declared.seq.SeqMsg.{SeqMsg}
use Rattle.handler_trait.specs.Handling.{Effect}
use Rattle.net_semantics.specs.Worlds.{Packet, put, change_at, one_more, one_less, sent_by}
use Rattle.net_semantics.proofs.Places.{put-there, put-elsewhere, change_at-there, change_at-elsewhere}
use Rattle.seqnum_xform.specs.Numbering.{Numbered, has_seen, with_seen, numbered_from, numbered}
use Rattle.seqnum_xform.proofs.SeenLaws.{seen-itself, seen-other, seen-cases}
use Rattle.lists.specs.Places.{slice_get_either}

-- a packet that was delivered or not, where its sender and its receiver are in these states
pub record Carries {S M : Type 0} (delivered : Bool) (state : ℕ → Numbered S) (p : Packet (SeqMsg M)) (q : Packet M) : Type 0 where
  pub source : p.source ≡ q.source
  pub destination : p.destination ≡ q.destination
  pub content : p.content.inner ≡ q.content
  pub copies : q.copies ≡ cond delivered 0 1
  pub left : delivered ≡ false → 0 < p.copies
  pub sent : p.content.number < (state p.source).next
  pub seen : has_seen (state p.destination).seen p.source p.content.number ≡ delivered

abbrev pub CarriesAt : {S M : Type 0} → Bool → (ℕ → Numbered S) → Option (Packet (SeqMsg M)) → Option (Packet M) → Type 0
CarriesAt delivered state None None = delivered ≡ false
CarriesAt delivered state (Some p) (Some q) = Carries delivered state p q
CarriesAt delivered state None (Some q) = ⊥
CarriesAt delivered state (Some p) None = ⊥

abbrev pub CarriesAll : {S M : Type 0} → (ℕ → Bool) → (ℕ → Numbered S) → List (Packet (SeqMsg M)) → List (Packet M) → Type 0
CarriesAll delivered state ps qs = (k : ℕ) → CarriesAt (delivered k) state (slice_get ps k) (slice_get qs k)

-- no two packets of a sender have one number
abbrev pub AreApart : {M : Type 0} → List (Packet (SeqMsg M)) → Type 0
AreApart {M} ps = (j k : ℕ) (p q : Packet (SeqMsg M)) → slice_get ps j ≡ Some p → slice_get ps k ≡ Some q → p.source ≡ q.source → p.content.number ≡ q.content.number → j ≡ k

-- the nodes and packets of numbered handlers, and those of the handlers within
pub record Tied {S M : Type 0} (delivered : ℕ → Bool) (state' : ℕ → Numbered S) (ps : List (Packet (SeqMsg M))) (state : ℕ → S) (qs : List (Packet M)) : Type 0 where
  pub states : (n : ℕ) → (state' n).inner ≡ state n
  pub packets : CarriesAll delivered state' ps qs
  pub known : (d a x : ℕ) → has_seen (state' d).seen a x ≡ true → x < (state' a).next
  pub apart : AreApart ps

not-seen : (b : Bool) → (b ≡ true → ⊥) → b ≡ false
not-seen true never = absurd (never refl)
not-seen false never = refl

-- the same of a list in which one packet was changed
at-changed : {X : Type 0} (f : X → X) (xs : List X) (k j : ℕ) (y : X) → slice_get (change_at f k xs) j ≡ Some y → (x : X) × (slice_get xs j ≡ Some x) × ((y ≡ x) ⊎ (y ≡ f x))
at-changed f [] k j y e = cc
at-changed f (x ∷ xs) zero zero y e = let same : y ≡ f x = cc in (x, refl, inr same)
at-changed f (x ∷ xs) zero (suc j) y e = (y, e, inl refl)
at-changed f (x ∷ xs) (suc k) zero y e = let same : y ≡ x = cc in (x, refl, inl same)
at-changed f (x ∷ xs) (suc k) (suc j) y e = at-changed f xs k j y e

module _ {S M : Type 0} where
  carries-append : (delivered : ℕ → Bool) (state : ℕ → Numbered S) (ps ps2 : List (Packet (SeqMsg M))) (qs qs2 : List (Packet M)) → CarriesAll delivered state ps qs → CarriesAll (λ _. false) state ps2 qs2
      → CarriesAll delivered state (ps ++ ps2) (qs ++ qs2)
  carries-append delivered state [] ps2 [] qs2 h new k = subst (λ b. CarriesAt b state (slice_get ps2 k) (slice_get qs2 k)) (sym (h k)) (new k)
  carries-append delivered state [] ps2 (q ∷ qs) qs2 h new k = absurd (h 0)
  carries-append delivered state (p ∷ ps) ps2 [] qs2 h new k = absurd (h 0)
  carries-append delivered state (p ∷ ps) ps2 (q ∷ qs) qs2 h new zero = h 0
  carries-append delivered state (p ∷ ps) ps2 (q ∷ qs) qs2 h new (suc k) = carries-append (λ j. delivered (suc j)) state ps ps2 qs qs2 (λ j. h (suc j)) new k

  -- packets that go on as they are, where states go on
  carries-on : (b : Bool) (state state2 : ℕ → Numbered S) (o : Option (Packet (SeqMsg M))) (r : Option (Packet M))
      → ((p : Packet (SeqMsg M)) → o ≡ Some p → p.content.number < (state p.source).next → p.content.number < (state2 p.source).next)
      → ((p : Packet (SeqMsg M)) → o ≡ Some p → has_seen (state2 p.destination).seen p.source p.content.number ≡ has_seen (state p.destination).seen p.source p.content.number)
      → CarriesAt b state o r → CarriesAt b state2 o r
  carries-on b state state2 None None grows same h = h
  carries-on b state state2 None (Some q) grows same h = h
  carries-on b state state2 (Some p) None grows same h = h
  carries-on b state state2 (Some p) (Some q) grows same h = record {
    source = h.source;
    destination = h.destination;
    content = h.content;
    copies = h.copies;
    left = h.left;
    sent = grows p refl h.sent;
    seen = same p refl ∙ h.seen;
  }

  -- what stands where a packet of the one list stands
  pub carried : (b : Bool) (state : ℕ → Numbered S) (o : Option (Packet (SeqMsg M))) (r : Option (Packet M)) (p : Packet (SeqMsg M)) → o ≡ Some p → CarriesAt b state o r → (q : Packet M) × (r ≡ Some q) × Carries b state p q
  carried b state None r p e h = cc
  carried b state (Some x) None p e h = absurd h
  carried b state (Some x) (Some q) p e h = let same : x ≡ p = cc in (q, refl, subst (λ y. Carries b state y q) same h)

-- one packet has a copy more or less, whose others are enough
pub record Alike {M : Type 0} (f : Packet M → Packet M) : Type 0 where
  pub source : (p : Packet M) → (f p).source ≡ p.source
  pub destination : (p : Packet M) → (f p).destination ≡ p.destination
  pub content : (p : Packet M) → (f p).content ≡ p.content

pub more-alike : {M : Type 0} → Alike (one_more {M = M})
more-alike = record { source = λ p. refl; destination = λ p. refl; content = λ p. refl }

pub less-alike : {M : Type 0} → Alike (one_less {M = M})
less-alike = record { source = λ p. refl; destination = λ p. refl; content = λ p. refl }

apart-changed : {M : Type 0} (f : Packet (SeqMsg M) → Packet (SeqMsg M)) (alike : Alike f) (ps : List (Packet (SeqMsg M))) (i : ℕ) → AreApart ps → AreApart (change_at f i ps)
apart-changed {M} f alike ps i apart j k p q at_j at_k source number =
    let was_j = at-changed f ps i j p at_j in
    let was_k = at-changed f ps i k q at_k in
    apart j k was_j.0 was_k.0 was_j.1 was_k.1 (sym (source-of p was_j.0 was_j.2) ∙ (source ∙ source-of q was_k.0 was_k.2))
    (sym (number-of p was_j.0 was_j.2) ∙ (number ∙ number-of q was_k.0 was_k.2)) where
      source-of : (y x : Packet (SeqMsg M)) → (y ≡ x) ⊎ (y ≡ f x) → y.source ≡ x.source
      source-of y x (inl e) = ap (λ z. z.source) e
      source-of y x (inr e) = ap (λ z. z.source) e ∙ alike.source x

      number-of : (y x : Packet (SeqMsg M)) → (y ≡ x) ⊎ (y ≡ f x) → y.content.number ≡ x.content.number
      number-of y x (inl e) = ap (λ z. z.content.number) e
      number-of y x (inr e) = ap (λ z. z.content.number) e ∙ ap (λ z. z.number) (alike.content x)

module _ {S M : Type 0} (f : Packet (SeqMsg M) → Packet (SeqMsg M)) (alike : Alike f) where
  carries-changed : (b : Bool) (state : ℕ → Numbered S) (p : Packet (SeqMsg M)) (q : Packet M) → (b ≡ false → 0 < (f p).copies) → Carries b state p q → Carries b state (f p) q
  carries-changed b state p q left h = record {
    source = alike.source p ∙ h.source;
    destination = alike.destination p ∙ h.destination;
    content = ap (λ (c : SeqMsg M). c.inner) (alike.content p) ∙ h.content;
    copies = h.copies;
    left = left;
    sent = rw (alike.source p, alike.content p) h.sent;
    seen = rw (alike.source p, alike.destination p, alike.content p) h.seen;
  }

  -- only the one list changes
  carries-one : (delivered : ℕ → Bool) (state : ℕ → Numbered S) (ps : List (Packet (SeqMsg M))) (qs : List (Packet M)) (i : ℕ)
      → ((p : Packet (SeqMsg M)) → slice_get ps i ≡ Some p → delivered i ≡ false → 0 < (f p).copies) → CarriesAll delivered state ps qs → CarriesAll delivered state (change_at f i ps) qs
  carries-one delivered state [] qs i left h k = h k
  carries-one delivered state (p ∷ ps) [] i left h k = absurd (h 0)
  carries-one delivered state (p ∷ ps) (q ∷ qs) zero left h zero = carries-changed (delivered 0) state p q (left p refl) (h 0)
  carries-one delivered state (p ∷ ps) (q ∷ qs) zero left h (suc k) = h (suc k)
  carries-one delivered state (p ∷ ps) (q ∷ qs) (suc i) left h zero = h 0
  carries-one delivered state (p ∷ ps) (q ∷ qs) (suc i) left h (suc k) = carries-one (λ j. delivered (suc j)) state ps qs i left (λ j. h (suc j)) k

  pub tied-one : (delivered : ℕ → Bool) (state' : ℕ → Numbered S) (ps : List (Packet (SeqMsg M))) (state : ℕ → S) (qs : List (Packet M)) (i : ℕ)
      → ((p : Packet (SeqMsg M)) → slice_get ps i ≡ Some p → delivered i ≡ false → 0 < (f p).copies) → Tied delivered state' ps state qs → Tied delivered state' (change_at f i ps) state qs
  tied-one delivered state' ps state qs i left h = record {
    states = h.states;
    packets = carries-one delivered state' ps qs i left h.packets;
    known = h.known;
    apart = apart-changed f alike ps i h.apart;
  }

-- numbered packets that were just sent
sent-number : {M : Type 0} (n x : ℕ) (sends : List (ℕ × M)) (j : ℕ) (p : Packet (SeqMsg M)) → slice_get (sent_by n (numbered_from x sends)) j ≡ Some p → (p.source ≡ n) × (p.content.number ≡ x + j) × (j < length sends)
sent-number n x [] j p e = cc
sent-number n x (s ∷ sends) zero p e = (
  let same : record { source = n; destination = s.0; content = record { number = x; inner = s.1 }; copies = 1 } ≡ p = cc in sym (ap (λ y. y.source) same),
  let same : record { source = n; destination = s.0; content = record { number = x; inner = s.1 }; copies = 1 } ≡ p = cc in sym (ap (λ y. y.content.number) same) ∙ omega arith,
  omega arith,
)
sent-number n x (s ∷ sends) (suc j) p e =
    let more = sent-number n (x + 1) sends j p e in
    (more.0, omega (arith, more.1), omega (arith, more.2))

-- an event happens at a node: its packets get the next numbers, and the handlers within make the same of it
module _ {S O M : Type 0} (delivered : ℕ → Bool) (state' : ℕ → Numbered S) (ps : List (Packet (SeqMsg M))) (state : ℕ → S) (qs : List (Packet M))
    (h : Tied delivered state' ps state qs) (n : ℕ) (e : Effect S O M) where
  abbrev after : Effect (Numbered S) O (SeqMsg M)
  after = numbered (state' n).next (state' n).seen e

  abbrev then' : ℕ → Numbered S
  then' = put state' n after.state

  next-grows : (k : ℕ) → (state' k).next ≤ (then' k).next
  next-grows k = elim (cases_eq k n) [
    | inl same ↦ let here : then' k ≡ after.state = put-there state' n after.state k same in rw (here, same) (omega arith)
    | inr ne ↦ let there : then' k ≡ state' k = put-elsewhere state' n after.state k ne in rw there (omega arith)
  ]

  seen-stays : (k : ℕ) → (then' k).seen ≡ (state' k).seen
  seen-stays k = elim (cases_eq k n) [
    | inl same ↦ ap (λ s. s.seen) (put-there state' n after.state k same) ∙ ap (λ j. (state' j).seen) (sym same)
    | inr ne ↦ ap (λ s. s.seen) (put-elsewhere state' n after.state k ne)
  ]

  new-carried : (x : ℕ) (sends : List (ℕ × M)) → (state' n).next ≤ x → x + length sends ≤ (then' n).next → CarriesAll (λ _. false) then' (sent_by n (numbered_from x sends)) (sent_by n sends)
  new-carried x [] from to k = refl
  new-carried x (s ∷ sends) from to zero = record {
    source = refl;
    destination = refl;
    content = refl;
    copies = refl;
    left = λ _. omega arith;
    sent = omega arith;
    seen = ap (λ ss. has_seen ss n x) (seen-stays s.0) ∙ not-seen (has_seen (state' s.0).seen n x) (λ seen. absurd (omega (arith, h.known s.0 n x seen, from)));
  }
  new-carried x (s ∷ sends) from to (suc k) = new-carried (x + 1) sends (omega arith) (omega arith) k

  numbers-there : (state' n).next + length e.sends ≤ (then' n).next
  numbers-there = let here : then' n ≡ after.state = put-there state' n after.state n refl in rw here (omega arith)

  old-carried : CarriesAll delivered then' ps qs
  old-carried k = carries-on (delivered k) state' then' (slice_get ps k) (slice_get qs k)
      (λ p _ sent. let grows = next-grows p.source in omega arith)
      (λ p _. ap (λ ss. has_seen ss p.source p.content.number) (seen-stays p.destination)) (h.packets k)

  old-below : (k : ℕ) (p : Packet (SeqMsg M)) → slice_get ps k ≡ Some p → p.content.number < (state' p.source).next
  old-below k p e = (carried (delivered k) state' (slice_get ps k) (slice_get qs k) p e (h.packets k)).2.sent

  -- an old packet of the node has a number below those of the new ones
  never-both : (j k : ℕ) (p q : Packet (SeqMsg M)) → slice_get ps j ≡ Some p → slice_get (sent_by n (numbered_from (state' n).next e.sends)) k ≡ Some q → p.source ≡ q.source → p.content.number ≡ q.content.number → ⊥
  never-both j k p q old new source number =
      let is = sent-number n (state' n).next e.sends k q new in
      let below : p.content.number < (state' n).next = subst (λ a. p.content.number < (state' a).next) (source ∙ is.0) (old-below j p old) in
      omega (arith, is.1, below, number)

  still-apart : AreApart (ps ++ sent_by n (numbered_from (state' n).next e.sends))
  still-apart j k p q at_j at_k source number = elim (slice_get_either ps _ j p at_j) [
    | inl old_j ↦ elim (slice_get_either ps _ k q at_k) [
      | inl old_k ↦ h.apart j k p q old_j old_k source number
      | inr new_k ↦ absurd (never-both j new_k.0 p q old_j new_k.2 source number)
    ]
    | inr new_j ↦ elim (slice_get_either ps _ k q at_k) [
      | inl old_k ↦ absurd (never-both k new_j.0 q p old_k new_j.2 (sym source) (sym number))
      | inr new_k ↦
          let is_p = sent-number n (state' n).next e.sends new_j.0 p new_j.2 in
          let is_q = sent-number n (state' n).next e.sends new_k.0 q new_k.2 in
          omega (arith, is_p.1, is_q.1, number, new_j.1, new_k.1)
    ]
  ]

  states-stay : (k : ℕ) → (then' k).inner ≡ put state n e.state k
  states-stay k = elim (cases_eq k n) [
    | inl same ↦ ap (λ s. s.inner) (put-there state' n after.state k same) ∙ sym (put-there state n e.state k same)
    | inr ne ↦ ap (λ s. s.inner) (put-elsewhere state' n after.state k ne) ∙ (h.states k ∙ sym (put-elsewhere state n e.state k ne))
  ]

  pub tied-event : Tied delivered then' (ps ++ sent_by n after.sends) (put state n e.state) (qs ++ sent_by n e.sends)
  tied-event = record {
    states = states-stay;
    packets = carries-append delivered then' ps (sent_by n after.sends) qs (sent_by n e.sends) old-carried (new-carried (state' n).next e.sends (omega arith) numbers-there);
    known = λ d a x seen.
        let was : has_seen (state' d).seen a x ≡ true = ap (λ ss. has_seen ss a x) (sym (seen-stays d)) ∙ seen in
        let below = h.known d a x was in
        let grows = next-grows a in
        omega arith;
    apart = still-apart;
  }

-- a packet is delivered for the first time: its number is seen from now on
module _ {S M : Type 0} (delivered : ℕ → Bool) (state' : ℕ → Numbered S) (ps : List (Packet (SeqMsg M))) (state : ℕ → S) (qs : List (Packet M))
    (h : Tied delivered state' ps state qs) (k : ℕ) (p : Packet (SeqMsg M)) (there : slice_get ps k ≡ Some p) (first : delivered k ≡ false) where
  abbrev noted : Numbered S
  noted = record { inner = (state' p.destination).inner; next = (state' p.destination).next; seen = with_seen (state' p.destination).seen p.source p.content.number }

  abbrev now' : ℕ → Numbered S
  now' = put state' p.destination noted

  inner-stays : (n : ℕ) → (now' n).inner ≡ (state' n).inner
  inner-stays n = elim (cases_eq n p.destination) [
    | inl same ↦ ap (λ s. s.inner) (put-there state' p.destination noted n same) ∙ ap (λ j. (state' j).inner) (sym same)
    | inr ne ↦ ap (λ s. s.inner) (put-elsewhere state' p.destination noted n ne)
  ]

  next-stays : (n : ℕ) → (now' n).next ≡ (state' n).next
  next-stays n = elim (cases_eq n p.destination) [
    | inl same ↦ ap (λ s. s.next) (put-there state' p.destination noted n same) ∙ ap (λ j. (state' j).next) (sym same)
    | inr ne ↦ ap (λ s. s.next) (put-elsewhere state' p.destination noted n ne)
  ]

  seen-there : (n : ℕ) → n ≡ p.destination → (now' n).seen ≡ with_seen (state' p.destination).seen p.source p.content.number
  seen-there n same = ap (λ s. s.seen) (put-there state' p.destination noted n same)

  seen-elsewhere : (n : ℕ) → n ≢ p.destination → (now' n).seen ≡ (state' n).seen
  seen-elsewhere n ne = ap (λ s. s.seen) (put-elsewhere state' p.destination noted n ne)

  carrier : (q : Packet M) × (slice_get qs k ≡ Some q) × Carries (delivered k) state' p q
  carrier = carried (delivered k) state' (slice_get ps k) (slice_get qs k) p there (h.packets k)

  -- any other packet is seen as before
  others-seen : (j : ℕ) (x : Packet (SeqMsg M)) → j ≢ k → slice_get ps j ≡ Some x → has_seen (now' x.destination).seen x.source x.content.number ≡ has_seen (state' x.destination).seen x.source x.content.number
  others-seen j x ne at_j = elim (cases_eq x.destination p.destination) [
    | inl same ↦
        ap (λ ss. has_seen ss x.source x.content.number) (seen-there x.destination same)
        ∙ (seen-other (state' p.destination).seen p.source p.content.number x.source x.content.number (λ source number. ne (h.apart j k x p at_j there source number))
        ∙ ap (λ d. has_seen (state' d).seen x.source x.content.number) (sym same))
    | inr elsewhere ↦ ap (λ ss. has_seen ss x.source x.content.number) (seen-elsewhere x.destination elsewhere)
  ]

  first-carried : (q : Packet M) → Carries (delivered k) state' p q → Carries true now' (one_less p) (one_less q)
  first-carried q c = record {
    source = c.source;
    destination = c.destination;
    content = c.content;
    copies = let one : q.copies ≡ 1 = c.copies ∙ ap (λ b. cond b 0 1) first in omega arith;
    left = λ e. absurd (false≢true (sym e));
    sent = let same = next-stays p.source in let below = c.sent in omega arith;
    seen = ap (λ ss. has_seen ss p.source p.content.number) (seen-there p.destination refl) ∙ seen-itself (state' p.destination).seen p.source p.content.number;
  }

  all-carried : CarriesAll (put delivered k true) now' (change_at one_less k ps) (change_at one_less k qs)
  all-carried j = elim (cases_eq j k) [
    | inl same ↦
        let here : put delivered k true j ≡ true = put-there delivered k true j same in
        let left : slice_get (change_at one_less k ps) j ≡ Some (one_less p) = subst (λ i. slice_get (change_at one_less k ps) i ≡ Some (one_less p)) (sym same) (change_at-there one_less ps k p there) in
        let right : slice_get (change_at one_less k qs) j ≡ Some (one_less carrier.0) =
        subst (λ i. slice_get (change_at one_less k qs) i ≡ Some (one_less carrier.0)) (sym same) (change_at-there one_less qs k carrier.0 carrier.1) in
        rw (here, left, right) (first-carried carrier.0 carrier.2)
    | inr ne ↦
        let here : put delivered k true j ≡ delivered j = put-elsewhere delivered k true j ne in
        let left : slice_get (change_at one_less k ps) j ≡ slice_get ps j = change_at-elsewhere one_less ps k j ne in
        let right : slice_get (change_at one_less k qs) j ≡ slice_get qs j = change_at-elsewhere one_less qs k j ne in
        rw (here, left, right) (carries-on (delivered j) state' now' (slice_get ps j) (slice_get qs j)
        (λ x _ sent. let same = next-stays x.source in omega arith) (λ x at_j. others-seen j x ne at_j) (h.packets j))
  ]

  known-on : (d a x : ℕ) → has_seen (now' d).seen a x ≡ true → x < (now' a).next
  known-on d a x seen = elim (cases_eq d p.destination) [
    | inl same ↦ elim (seen-cases (state' p.destination).seen p.source p.content.number a x (ap (λ ss. has_seen ss a x) (sym (seen-there d same)) ∙ seen)) [
      | inl is ↦ let below : p.content.number < (state' p.source).next = carrier.2.sent in let stays = next-stays a in
          let here : x < (state' a).next = subst (λ b. x < (state' b).next) (sym is.0) (rw is.1 below) in omega arith
      | inr was ↦ let below = h.known p.destination a x was in let stays = next-stays a in omega arith
    ]
    | inr ne ↦ let below = h.known d a x (ap (λ ss. has_seen ss a x) (sym (seen-elsewhere d ne)) ∙ seen) in let stays = next-stays a in omega arith
  ]

  pub tied-first : Tied (put delivered k true) now' (change_at one_less k ps) state (change_at one_less k qs)
  tied-first = record {
    states = λ n. inner-stays n ∙ h.states n;
    packets = all-carried;
    known = known-on;
    apart = apart-changed one_less less-alike ps k h.apart;
  }
