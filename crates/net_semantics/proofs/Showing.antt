-- How the packets that are kept stand for a world's, as both change.
use Rattle.std.proofs.Common.{◌≡◌, ℕ, zero, suc, ◌+◌, ◌-◌, ◌<◌, List, [], ◌∷◌, ◌++◌, length, map, Option, Some, None, refl, ap, ◌∙◌, arith, eqb, false}
use Rattle.std.proofs.lemmas.Bool.{ne_eqb}
use Rattle.std.specs.Prelude.{◌==◌, slice_get, if◌then◌else◌}
use Rattle.net_semantics.specs.Worlds.{Packet, change_at, one_more, one_less, sent_by, copies_of, ends_of}
use Rattle.net_semantics.specs.Shown.{Shown, ShowsPacket, ShowsAt, WorldView}
use Rattle.net_semantics.specs.Held.{held_sent, held_more, held_less, held_copies, held_ends}

abbrev pub ShowsAll : {M : Type 0} → List (Shown M) → List (Packet M) → Type 0
ShowsAll ps qs = (k : ℕ) → ShowsAt (slice_get ps k) (slice_get qs k)

pub shown_length : {M : Type 0} (ps : List (Shown M)) (qs : List (Packet M)) → ShowsAll ps qs → length ps ≡ length qs
shown_length [] [] h = refl
shown_length [] (q ∷ qs) h = absurd (h 0)
shown_length (p ∷ ps) [] h = absurd (h 0)
shown_length (p ∷ ps) (q ∷ qs) h = ap suc (shown_length ps qs (λ k. h (suc k)))

pub shown-append : {M : Type 0} (ps ps2 : List (Shown M)) (qs qs2 : List (Packet M)) → ShowsAll ps qs → ShowsAll ps2 qs2 → ShowsAll (ps ++ ps2) (qs ++ qs2)
shown-append [] ps2 [] qs2 h h2 k = h2 k
shown-append [] ps2 (q ∷ qs) qs2 h h2 k = absurd (h 0)
shown-append (p ∷ ps) ps2 [] qs2 h h2 k = absurd (h 0)
shown-append (p ∷ ps) ps2 (q ∷ qs) qs2 h h2 zero = h 0
shown-append (p ∷ ps) ps2 (q ∷ qs) qs2 h h2 (suc k) = shown-append ps ps2 qs qs2 (λ j. h (suc j)) h2 k

pub shown_sent : {M : Type 0} (n : ℕ) (sends : List (ℕ × M)) → ShowsAll (map (held_sent n) sends) (sent_by n sends)
shown_sent n [] k = tt
shown_sent n (p ∷ ps) zero = record { source = refl; destination = refl; copies = refl; content = λ _. refl }
shown_sent n (p ∷ ps) (suc k) = shown_sent n ps k

-- the change at k keeps what is shown, where the packet there has one of these numbers of copies
pub shown-change_at : {M : Type 0} (f : Shown M → Shown M) (g : Packet M → Packet M) (few : ℕ → Type 0) → ((p : Shown M) (q : Packet M) → few p.copies → ShowsPacket p q → ShowsPacket (f p) (g q)) → (ps : List (Shown M)) (qs : List (Packet M)) (k : ℕ) → few (held_copies (slice_get ps k)) → ShowsAll ps qs → ShowsAll (change_at f k ps) (change_at g k qs)
shown-change_at f g few keeps [] [] k c h j = tt
shown-change_at f g few keeps [] (q ∷ qs) k c h j = absurd (h 0)
shown-change_at f g few keeps (p ∷ ps) [] k c h j = absurd (h 0)
shown-change_at f g few keeps (p ∷ ps) (q ∷ qs) zero c h zero = keeps p q c (h 0)
shown-change_at f g few keeps (p ∷ ps) (q ∷ qs) zero c h (suc j) = h (suc j)
shown-change_at f g few keeps (p ∷ ps) (q ∷ qs) (suc k) c h zero = h 0
shown-change_at f g few keeps (p ∷ ps) (q ∷ qs) (suc k) c h (suc j) = shown-change_at f g few keeps ps qs k c (λ i. h (suc i)) j

pub shown_more : {M : Type 0} (p : Shown M) (q : Packet M) → 0 < p.copies → ShowsPacket p q → ShowsPacket (held_more p) (one_more q)
shown_more p q c h = record {
  source = h.source;
  destination = h.destination;
  copies = ap (λ n. n + 1) h.copies;
  content = λ _. h.content (let e = h.copies in omega arith);
}

left_in : {M : Type 0} (n : ℕ) (o p : Option M) → 0 < n → o ≡ p → (if n == 0 then None else o) ≡ p
left_in n o p h e = let f : eqb n 0 ≡ false = ne_eqb n 0 (λ z. omega arith) in rw f e

pub shown_less : {M : Type 0} (p : Shown M) (q : Packet M) → 0 < p.copies → ShowsPacket p q → ShowsPacket (held_less p) (one_less q)
shown_less p q c h = record {
  source = h.source;
  destination = h.destination;
  copies = ap (λ n. n - 1) h.copies;
  content = λ l. let e = h.copies in left_in (p.copies - 1) p.content (Some q.content) (omega arith) (h.content (omega arith));
}

pub copies_shown : {M : Type 0} (o : Option (Shown M)) (r : Option (Packet M)) → ShowsAt o r → held_copies o ≡ copies_of r
copies_shown None None h = refl
copies_shown None (Some q) h = absurd h
copies_shown (Some p) None h = absurd h
copies_shown (Some p) (Some q) h = h.copies

pub ends_shown : {M : Type 0} (o : Option (Shown M)) (r : Option (Packet M)) → ShowsAt o r → held_ends o ≡ ends_of r
ends_shown None None h = refl
ends_shown None (Some q) h = absurd h
ends_shown (Some p) None h = absurd h
ends_shown (Some p) (Some q) h = let a = h.source in let b = h.destination in cc

-- the packet that stands where one with a copy and a content is kept
pub packet_of_shown : {M : Type 0} (p : Shown M) (c : M) (r : Option (Packet M)) → 0 < p.copies → p.content ≡ Some c → ShowsAt (Some p) r → r ≡ Some (record { source = p.source; destination = p.destination; content = c; copies = p.copies })
packet_of_shown p c None l e h = absurd h
packet_of_shown p c (Some q) l e h =
    let e1 = h.source in let e2 = h.destination in let e3 = h.copies in
    let e4 : p.content ≡ Some q.content = h.content (omega arith) in
    let e5 : c ≡ q.content = cc in
    let e6 : record { source = q.source; destination = q.destination; content = q.content; copies = q.copies } ≡ record { source = p.source; destination = p.destination; content = c; copies = p.copies } = cc in ap (λ z. Some z) e6

-- a packet of which a copy is in flight was sent
pub kept_within : {M : Type 0} (ps : List (Shown M)) (k : ℕ) → 0 < held_copies (slice_get ps k) → k < length ps
kept_within [] k h = absurd (omega arith)
kept_within (p ∷ ps) zero h = omega arith
kept_within (p ∷ ps) (suc k) h = let l = kept_within ps k h in omega arith

-- a view in which the step changed the states alone
abbrev pub with_states : {H S I O M : Type 0} → WorldView H S I O M → List S → WorldView H S I O M
with_states v states = record v { states = states; taken = v.taken + 1 }

pub restarted : {H S I O M : Type 0} (v v2 : WorldView H S I O M) (states : List S) (n : ℕ) (s : S) → v ≡ v2 → states ≡ change_at (λ _. s) n v.states → with_states v states ≡ with_states v2 (change_at (λ _. s) n v2.states)
restarted v v2 states n s e f = ap (with_states v) f ∙ ap (λ u. with_states u (change_at (λ _. s) n u.states)) e
