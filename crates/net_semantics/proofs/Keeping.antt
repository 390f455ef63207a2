-- Packets stay kept, with their contents apart, as they change and as more are sent.
use Rattle.std.proofs.Common.{◌≡◌, ◌≢◌, ◌⊎◌, ℕ, zero, suc, ◌+◌, ◌-◌, ◌<◌, ◌≤◌, List, [], ◌∷◌, ◌++◌, length, map, get_or, set}
use Rattle.std.proofs.Common.{Option, Some, None, is_some, IsSome, slice_get, true, false, eqb, refl, ap, sym, ◌∙◌, subst, arith, inl, inr}
use Rattle.std.proofs.lemmas.Bool.{cases_eq, eq-eqb, ne_eqb, false≢true}
use Rattle.std.proofs.lemmas.List.{map-append, length-map}
use Rattle.std.proofs.lemmas.Option.{same_Some, get_or_from_slice_get, slice_get_past}
use Rattle.slab.specs.Slab.{Slab, get, slab_len, Updates}
use Rattle.net_semantics.specs.declared.packets.Sent.{Sent}
use Rattle.net_semantics.specs.Worlds.{change_at}
use Rattle.net_semantics.specs.Shown.{Shown}
use Rattle.net_semantics.specs.Held.{held_sent, held_more, held_less, held_copies, held_count}
use Rattle.net_semantics.specs.Kept.{shown_as, content_of, shown_with, shown_all, IsKept}
use Rattle.net_semantics.proofs.Counts.{count_one_more, count_some, count_none, set_less, set_more}

-- this packet with another number of copies, and one that was just sent
abbrev pub with_copies : Sent → ℕ → Sent
with_copies s n = record s { copies = n }

abbrev pub sent_to : ℕ → ℕ → ℕ → Sent
sent_to source destination place = record { source = source; destination = destination; copies = 1; place = place }

-- a packet that is shown with these ends, so many copies and this content
abbrev pub parcel_of : {M : Type 0} → ℕ → ℕ → ℕ → M → Shown M
parcel_of source destination n m = record { source = source; destination = destination; copies = n; content = Some m }

-- what stands in one place of a list that is mapped, set or pushed to
map_there : {X Y : Type 0} (f : X → Y) (xs : List X) (k : ℕ) (x : X) → slice_get xs k ≡ Some x → slice_get (map f xs) k ≡ Some (f x)
map_there f [] k x e = absurd (cc)
map_there f (y ∷ ys) zero x e = ap (λ z. Some (f z)) (same_Some y x e)
map_there f (y ∷ ys) (suc k) x e = map_there f ys k x e

in_set : {X : Type 0} (xs : List X) (k j : ℕ) (x y : X) → slice_get (set xs k y) j ≡ Some x
    → ((j ≢ k) × (slice_get xs j ≡ Some x)) ⊎ ((j ≡ k) × (x ≡ y))
in_set [] k j x y e = absurd (cc)
in_set (z ∷ zs) zero zero x y e = inr (refl, sym (same_Some y x e))
in_set (z ∷ zs) zero (suc j) x y e = inl ((λ q. omega arith), e)
in_set (z ∷ zs) (suc k) zero x y e = inl ((λ q. omega arith), e)
in_set (z ∷ zs) (suc k) (suc j) x y e = elim (in_set zs k j x y e) [
  | inl p ↦ inl ((λ q. p.0 (omega arith)), p.1)
  | inr p ↦ inr (ap suc p.0, p.1)
]

in_push : {X : Type 0} (xs : List X) (j : ℕ) (x y : X) → slice_get (xs ++ y ∷ []) j ≡ Some x
    → (slice_get xs j ≡ Some x) ⊎ ((j ≡ length xs) × (x ≡ y))
in_push [] zero x y e = inr (refl, sym (same_Some y x e))
in_push [] (suc j) x y e = absurd (cc)
in_push (z ∷ zs) zero x y e = inl e
in_push (z ∷ zs) (suc j) x y e = elim (in_push zs j x y e) [
  | inl p ↦ inl p
  | inr p ↦ inr (ap suc p.0, p.1)
]

-- a packet without copies has no content, whatever stands in its place
same_content : {M : Type 0} (n : ℕ) (a b : Option M) → (0 < n → a ≡ b) → content_of n a ≡ content_of n b
same_content n a b h = elim (cases_eq n 0) [
  | inl e ↦ let t : eqb n 0 ≡ true = eq-eqb n 0 e in rw t refl
  | inr ne ↦ let f : eqb n 0 ≡ false = ne_eqb n 0 ne in rw f (h (omega (arith, ne)))
]

its_content : {M : Type 0} (n : ℕ) (o : Option M) → 0 < n → content_of n o ≡ o
its_content n o l = let f : eqb n 0 ≡ false = ne_eqb n 0 (λ z. omega arith) in rw f refl

module _ {M : Type 0} (c c2 : Slab M) where
  same_shown : (s : Sent) → (0 < s.copies → get c2 s.place ≡ get c s.place) → shown_with c2 s ≡ shown_with c s
  same_shown s h = ap (shown_as s s.copies) (same_content s.copies (get c2 s.place) (get c s.place) h)

  -- where each is shown as before, so are all, and all but the one that is set
  same_all : (ss : List Sent) → ((j : ℕ) (t : Sent) → slice_get ss j ≡ Some t → shown_with c2 t ≡ shown_with c t)
      → shown_all c2 ss ≡ shown_all c ss
  same_all [] h = refl
  same_all (s ∷ ss) h =
      ap (λ x. x ∷ shown_all c2 ss) (h 0 s refl) ∙ ap (λ xs. shown_with c s ∷ xs) (same_all ss (λ j t e. h (suc j) t e))

  same_but_set : (ss : List Sent) (k : ℕ) (s : Sent)
      → ((j : ℕ) (t : Sent) → j ≢ k → slice_get ss j ≡ Some t → shown_with c2 t ≡ shown_with c t)
      → shown_all c2 (set ss k s) ≡ set (shown_all c ss) k (shown_with c2 s)
  same_but_set [] k s h = refl
  same_but_set (t ∷ ss) zero s h =
      ap (λ xs. shown_with c2 s ∷ xs) (same_all ss (λ j u e. h (suc j) u (λ q. omega arith) e))
  same_but_set (t ∷ ss) (suc k) s h =
      ap (λ x. x ∷ shown_all c2 (set ss k s)) (h 0 t (λ q. omega arith) refl)
      ∙ ap (λ xs. shown_with c t ∷ xs) (same_but_set ss k s (λ j u ne e. h (suc j) u (λ q. ne (omega arith)) e))

module _ {M : Type 0} (c : Slab M) where
  pub kept_at_first : (ss : List Sent) → ss ≡ [] → slab_len c ≡ 0 → IsKept ss c
  kept_at_first ss none empty =
      let first : IsKept [] c = record {
        counted = empty;
        there = λ k s e l. absurd (cc);
        apart = λ j k s t e f l m q. absurd (cc);
      } in subst (λ xs. IsKept xs c) (sym none) first

  -- a packet that is shown with a copy was sent, and has it
  pub sent_there : (ss : List Sent) (k : ℕ) (s : Sent) → 0 < held_copies (slice_get (shown_all c ss) k) → s ≡ get_or ss k s
      → (slice_get ss k ≡ Some s) × (0 < s.copies)
  sent_there [] k s l e = absurd (omega arith)
  sent_there (t ∷ ss) zero s l e = (ap (λ x. Some x) (sym e), subst (λ u. 0 < u.copies) (sym e) l)
  sent_there (t ∷ ss) (suc k) s l e = sent_there ss k s l e

  module _ (ps : List (Shown M)) (ss : List Sent) (k : ℕ) (view : shown_all c ss ≡ ps) where
    pub shown_past : length ss ≤ k → slice_get ps k ≡ None
    shown_past le = slice_get_past ps k (subst (λ n. n ≤ k) (sym (ap length (sym view) ∙ length-map ss (shown_with c))) le)

    pub shown_there : (s : Sent) → slice_get ss k ≡ Some s → slice_get ps k ≡ Some (shown_with c s)
    shown_there s e = subst (λ qs. slice_get qs k ≡ Some (shown_with c s)) view (map_there (shown_with c) ss k s e)

    -- a packet with a copy is shown with the content in its place
    pub shown_parcel : (s : Sent) (m : M) → slice_get ss k ≡ Some s → 0 < s.copies → get c s.place ≡ Some m
        → slice_get ps k ≡ Some (parcel_of s.source s.destination (held_copies (slice_get ps k)) m)
    shown_parcel s m e copy content =
        let shown : slice_get ps k ≡ Some (parcel_of s.source s.destination s.copies m) =
        shown_there s e ∙ ap (λ o. Some (shown_as s s.copies o)) (its_content s.copies (get c s.place) copy ∙ content) in
        subst (λ o. slice_get ps k ≡ Some (parcel_of s.source s.destination (held_copies o) m)) (sym shown) shown

-- packets are kept and shown as before where there is room for more contents
module _ {M : Type 0} (ss : List Sent) (c c2 : Slab M) (same : c2 ≡ record c { capacity = c2.capacity }) where
  pub kept_roomier : IsKept ss c → IsKept ss c2
  kept_roomier was =
      let roomier : IsKept ss (record c { capacity = c2.capacity }) =
      record { counted = was.counted; there = was.there; apart = was.apart } in
      subst (λ x. IsKept ss x) (sym same) roomier

  pub shown_roomier : shown_all c2 ss ≡ shown_all c ss
  shown_roomier = same_all c c2 ss (λ j s e. ap (λ x. shown_with x s) same)

-- packet k, which has a copy, gets another number of copies, and no place but its own gets another content
pub record Changes {M : Type 0} (ss : List Sent) (c c2 : Slab M) (k : ℕ) (s : Sent) (n : ℕ) : Type 0 where
  pub was : IsKept ss c
  pub there : slice_get ss k ≡ Some s
  pub copy : 0 < s.copies
  pub others : (p : ℕ) → p ≢ s.place → get c2 p ≡ get c p
  pub still : 0 < n → get c2 s.place ≡ get c s.place

module _ {M : Type 0} (ss : List Sent) (c c2 : Slab M) (k : ℕ) (s : Sent) (n : ℕ) (h : Changes ss c c2 k s n) where
  abbrev changed : List Sent
  changed = set ss k (with_copies s n)

  elsewhere : (j : ℕ) (t : Sent) → j ≢ k → slice_get ss j ≡ Some t → 0 < t.copies → t.place ≢ s.place
  elsewhere j t ne e l = λ q. ne (h.was.apart j k t s e h.there l h.copy q)

  changed_there : (j : ℕ) (t : Sent) → slice_get changed j ≡ Some t → 0 < t.copies → IsSome (get c2 t.place)
  changed_there j t e l = elim (in_set ss k j t (with_copies s n) e) [
    | inl p ↦ subst (λ o. IsSome o) (sym (h.others t.place (elsewhere j t p.0 p.1 l))) (h.was.there j t p.1 l)
    | inr p ↦
        let same = h.still (subst (λ u. 0 < u.copies) p.1 l) in
        subst (λ u. IsSome (get c2 u.place)) (sym p.1) (subst (λ o. IsSome o) (sym same) (h.was.there k s h.there h.copy))
  ]

  changed_apart : (i j : ℕ) (t u : Sent) → slice_get changed i ≡ Some t → slice_get changed j ≡ Some u
      → 0 < t.copies → 0 < u.copies → t.place ≡ u.place → i ≡ j
  changed_apart i j t u e f l m q = elim (in_set ss k i t (with_copies s n) e) [
    | inl p ↦ elim (in_set ss k j u (with_copies s n) f) [
      | inl r ↦ h.was.apart i j t u p.1 r.1 l m q
      | inr r ↦ absurd (elsewhere i t p.0 p.1 l (q ∙ ap (λ v. v.place) r.1))
    ]
    | inr p ↦ elim (in_set ss k j u (with_copies s n) f) [
      | inl r ↦ absurd (elsewhere j u r.0 r.1 m (sym q ∙ ap (λ v. v.place) p.1))
      | inr r ↦ p.0 ∙ sym r.0
    ]
  ]

  shown_changed : shown_all c2 changed ≡ set (shown_all c ss) k (shown_with c2 (with_copies s n))
  shown_changed =
      same_but_set c c2 ss k (with_copies s n) (λ j t ne e. same_shown c c2 t (λ l. h.others t.place (elsewhere j t ne e l)))

  stands : slice_get (shown_all c ss) k ≡ Some (shown_with c s)
  stands = map_there (shown_with c) ss k s h.there

  copy_shown : 0 < held_copies (slice_get (shown_all c ss) k)
  copy_shown = subst (λ o. 0 < held_copies o) (sym stands) h.copy

  read : shown_with c s ≡ get_or (shown_all c ss) k (shown_with c s)
  read = sym (get_or_from_slice_get (shown_all c ss) k (shown_with c s) (shown_with c s) stands)

  pub kept_some : 0 < n → slab_len c2 ≡ slab_len c → IsKept changed c2
  kept_some l len =
      let some = count_some (shown_all c ss) k (shown_with c s) (shown_with c2 (with_copies s n)) copy_shown l in
      record {
        counted = len ∙ (h.was.counted ∙ (some ∙ ap held_count (sym shown_changed)));
        there = changed_there;
        apart = changed_apart;
      }

  pub kept_none : n ≡ 0 → slab_len c2 + 1 ≡ slab_len c → IsKept changed c2
  kept_none e len =
      let none = count_none (shown_all c ss) k (shown_with c s) (shown_with c2 (with_copies s n)) copy_shown e in
      let fewer : slab_len c2 ≡ held_count (set (shown_all c ss) k (shown_with c2 (with_copies s n))) =
      omega (arith, h.was.counted, none, len) in
      record { counted = fewer ∙ ap held_count (sym shown_changed); there = changed_there; apart = changed_apart }

-- how packets are shown where one copy less of packet k is in flight, and where one more is
module _ {M : Type 0} (ss : List Sent) (c c2 : Slab M) (k : ℕ) (s : Sent) where
  pub shown_less : Changes ss c c2 k s (s.copies - 1)
      → shown_all c2 (set ss k (with_copies s (s.copies - 1))) ≡ change_at held_less k (shown_all c ss)
  shown_less h =
      let n = s.copies - 1 in
      let less : shown_with c2 (with_copies s n) ≡ held_less (shown_with c s) =
      ap (shown_as s n) (same_content n (get c2 s.place) (content_of s.copies (get c s.place))
      (λ l. h.still l ∙ sym (its_content s.copies (get c s.place) h.copy))) in
      shown_changed ss c c2 k s n h
      ∙ set_less (shown_all c ss) k (shown_with c s) (shown_with c2 (with_copies s n)) (copy_shown ss c c2 k s n h)
      (less ∙ ap held_less (read ss c c2 k s n h))

  pub shown_more : Changes ss c c2 k s (s.copies + 1)
      → shown_all c2 (set ss k (with_copies s (s.copies + 1))) ≡ change_at held_more k (shown_all c ss)
  shown_more h =
      let n = s.copies + 1 in
      let more : shown_with c2 (with_copies s n) ≡ held_more (shown_with c s) =
      ap (shown_as s n) (its_content n (get c2 s.place) (omega arith)
      ∙ (h.still (omega arith) ∙ sym (its_content s.copies (get c s.place) h.copy))) in
      shown_changed ss c c2 k s n h
      ∙ set_more (shown_all c ss) k (shown_with c s) (shown_with c2 (with_copies s n)) (copy_shown ss c c2 k s n h)
      (more ∙ ap held_more (read ss c c2 k s n h))

-- a packet is sent, with its content where none stood
pub record Adds {M : Type 0} (ss : List Sent) (c c2 : Slab M) (place : ℕ) (m : M) : Type 0 where
  pub was : IsKept ss c
  pub vacant : get c place ≡ None
  pub updates : Updates c c2 place (Some m)

module _ {M : Type 0} (ss : List Sent) (c c2 : Slab M) (place : ℕ) (m : M) (source destination : ℕ)
    (h : Adds ss c c2 place m) where
  abbrev added : List Sent
  added = ss ++ sent_to source destination place ∷ []

  others_stay : (j : ℕ) (t : Sent) → slice_get ss j ≡ Some t → 0 < t.copies → t.place ≢ place
  others_stay j t e l = λ q. false≢true (sym (ap is_some (ap (get c) q ∙ h.vacant)) ∙ h.was.there j t e l)

  added_there : (j : ℕ) (t : Sent) → slice_get added j ≡ Some t → 0 < t.copies → IsSome (get c2 t.place)
  added_there j t e l = elim (in_push ss j t (sent_to source destination place) e) [
    | inl p ↦ subst (λ o. IsSome o) (sym (h.updates.others t.place (others_stay j t p l))) (h.was.there j t p l)
    | inr p ↦ subst (λ u. IsSome (get c2 u.place)) (sym p.1) (subst (λ o. IsSome o) (sym h.updates.changed) refl)
  ]

  added_apart : (i j : ℕ) (t u : Sent) → slice_get added i ≡ Some t → slice_get added j ≡ Some u
      → 0 < t.copies → 0 < u.copies → t.place ≡ u.place → i ≡ j
  added_apart i j t u e f l n q = elim (in_push ss i t (sent_to source destination place) e) [
    | inl p ↦ elim (in_push ss j u (sent_to source destination place) f) [
      | inl r ↦ h.was.apart i j t u p r l n q
      | inr r ↦ absurd (others_stay i t p l (q ∙ ap (λ v. v.place) r.1))
    ]
    | inr p ↦ elim (in_push ss j u (sent_to source destination place) f) [
      | inl r ↦ absurd (others_stay j u r n (sym q ∙ ap (λ v. v.place) p.1))
      | inr r ↦ p.0 ∙ sym r.0
    ]
  ]

  pub shown_added : shown_all c2 added ≡ shown_all c ss ++ held_sent source (destination, m) ∷ []
  shown_added =
      let s = sent_to source destination place in
      let before : shown_all c2 ss ≡ shown_all c ss =
      same_all c c2 ss (λ j t e. same_shown c c2 t (λ l. h.updates.others t.place (others_stay j t e l))) in
      let new : shown_with c2 s ≡ held_sent source (destination, m) =
      ap (shown_as s 1) (its_content 1 (get c2 place) (omega arith) ∙ h.updates.changed) in
      map-append (shown_with c2) ss (s ∷ [])
      ∙ (ap (λ ps. ps ++ shown_with c2 s ∷ []) before ∙ ap (λ p. shown_all c ss ++ p ∷ []) new)

  pub kept_added : slab_len c2 ≡ slab_len c + 1 → IsKept added c2
  kept_added len =
      let more = count_one_more (shown_all c ss) (held_sent source (destination, m)) (omega arith) in
      record {
        counted = len ∙ (ap (λ n. n + 1) h.was.counted ∙ (sym more ∙ ap held_count (sym shown_added)));
        there = added_there;
        apart = added_apart;
      }
