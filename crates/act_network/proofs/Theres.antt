-- Packets by their number: that one was sent, and at least so many copies of it are in flight.
use Rattle.std.proofs.Common.{◌≡◌, ◌≢◌, ℕ, zero, suc, ◌≤◌, List, [], ◌∷◌, ◌++◌, length, Some, slice_get, refl, ap, subst, ◌∙◌, arith, inl, inr, true, ◌⊎◌}
use Rattle.std.specs.Prelude.{nat_lt}
use Rattle.std.proofs.lemmas.Bool.{cases_eq}
use Rattle.std.proofs.lemmas.Bool.Decides.{nat_tests}
use Rattle.lists.specs.Places.{slice_get_front}
use Rattle.net_semantics.specs.Worlds.{Packet, change_at, one_less, one_more}
use Rattle.net_semantics.proofs.Places.{change_at-there, change_at-elsewhere}

-- an element of a list with one more is one of the list, or the last
pub get-either : {P : Type 0} (xs : List P) (y : P) (k : ℕ) (x : P) → slice_get (xs ++ y ∷ []) k ≡ Some x → (slice_get xs k ≡ Some x) ⊎ ((k ≡ length xs) × (y ≡ x))
get-either [] y zero x e = inr (refl, cc)
get-either [] y (suc k) x e = cc
get-either (z ∷ xs) y zero x e = inl e
get-either (z ∷ xs) y (suc k) x e = elim (get-either xs y k x e) [ inl h ↦ inl h | inr h ↦ inr (ap suc h.0, h.1) ]

-- an element of a list that was changed in one place is one of the list, or the one that was changed
pub get-changed : {P : Type 0} (f : P → P) (xs : List P) (j k : ℕ) (x : P) → slice_get (change_at f j xs) k ≡ Some x →
    ((k ≢ j) × (slice_get xs k ≡ Some x)) ⊎ ((k ≡ j) × ((y : P) × (slice_get xs k ≡ Some y) × (f y ≡ x)))
get-changed f [] j k x e = cc
get-changed f (z ∷ xs) zero zero x e = inr (refl, (z, refl, cc))
get-changed f (z ∷ xs) zero (suc k) x e = inl (λ h. cc, e)
get-changed f (z ∷ xs) (suc j) zero x e = inl (λ h. cc, e)
get-changed f (z ∷ xs) (suc j) (suc k) x e =
    elim (get-changed f xs j k x e) [ inl h ↦ inl (λ same. h.0 (omega arith), h.1) | inr h ↦ inr (ap suc h.0, h.1) ]

pub positive : (c : ℕ) → 1 ≤ c → nat_lt 0 c ≡ true
positive c h = grind (arith, nat_tests)

module _ {M : Type 0} where
  pub record There (ps : List (Packet M)) (k source destination : ℕ) (content : M) (least : ℕ) : Type 0 where
    pub packet : Packet M
    pub is : slice_get ps k ≡ Some packet
    pub source_is : packet.source ≡ source
    pub destination_is : packet.destination ≡ destination
    pub content_is : packet.content ≡ content
    pub enough : least ≤ packet.copies

  pub weaker : {ps : List (Packet M)} {k s d : ℕ} {c : M} {l : ℕ} (t : There ps k s d c l) (least : ℕ) → least ≤ l → There ps k s d c least
  weaker t least h = record {
    packet = t.packet;
    is = t.is;
    source_is = t.source_is;
    destination_is = t.destination_is;
    content_is = t.content_is;
    enough = omega (arith, h, t.enough);
  }

  pub there-append : {ps : List (Packet M)} {k s d : ℕ} {c : M} {l : ℕ} (more : List (Packet M)) → There ps k s d c l → There (ps ++ more) k s d c l
  there-append {ps = ps} {k = k} more t = record {
    packet = t.packet;
    is = slice_get_front ps more k t.packet t.is;
    source_is = t.source_is;
    destination_is = t.destination_is;
    content_is = t.content_is;
    enough = t.enough;
  }

  pub more-here : {ps : List (Packet M)} {k s d : ℕ} {c : M} {l : ℕ} → There ps k s d c l → There (change_at one_more k ps) k s d c (suc l)
  more-here {ps = ps} {k = k} t = record {
    packet = one_more t.packet;
    is = change_at-there one_more ps k t.packet t.is;
    source_is = t.source_is;
    destination_is = t.destination_is;
    content_is = t.content_is;
    enough = omega (arith, t.enough);
  }

  pub less-here : {ps : List (Packet M)} {k s d : ℕ} {c : M} {l : ℕ} → There ps k s d c (suc l) → There (change_at one_less k ps) k s d c l
  less-here {ps = ps} {k = k} t = record {
    packet = one_less t.packet;
    is = change_at-there one_less ps k t.packet t.is;
    source_is = t.source_is;
    destination_is = t.destination_is;
    content_is = t.content_is;
    enough = omega (arith, t.enough);
  }

  pub elsewhere : {ps : List (Packet M)} {k s d : ℕ} {c : M} {l : ℕ} (f : Packet M → Packet M) (j : ℕ) → k ≢ j → There ps k s d c l →
      There (change_at f j ps) k s d c l
  elsewhere {ps = ps} {k = k} f j ne t = record {
    packet = t.packet;
    is = change_at-elsewhere f ps j k ne ∙ t.is;
    source_is = t.source_is;
    destination_is = t.destination_is;
    content_is = t.content_is;
    enough = t.enough;
  }

  -- with one copy more or less of any packet
  pub more-any : {ps : List (Packet M)} {k s d : ℕ} {c : M} {l : ℕ} (j : ℕ) → There ps k s d c l → There (change_at one_more j ps) k s d c l
  more-any {ps = ps} {k = k} {s = s} {d = d} {c = c} {l = l} j t = elim (cases_eq k j) [
    | inl same ↦ subst (λ x. There (change_at one_more x ps) k s d c l) same (weaker (more-here t) l (omega arith))
    | inr ne ↦ elsewhere one_more j ne t
  ]

  pub less-any : {ps : List (Packet M)} {k s d : ℕ} {c : M} (j : ℕ) → There ps k s d c 0 → There (change_at one_less j ps) k s d c 0
  less-any {ps = ps} {k = k} {s = s} {d = d} {c = c} j t = elim (cases_eq k j) [
    | inl same ↦ subst (λ x. There (change_at one_less x ps) k s d c 0) same (gone t)
    | inr ne ↦ elsewhere one_less j ne t
  ]
    where
      gone : There ps k s d c 0 → There (change_at one_less k ps) k s d c 0
      gone u = record {
        packet = one_less u.packet;
        is = change_at-there one_less ps k u.packet u.is;
        source_is = u.source_is;
        destination_is = u.destination_is;
        content_is = u.content_is;
        enough = omega arith;
      }
