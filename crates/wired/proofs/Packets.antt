-- Packets as bytes stand where the packets that they are of stand.
use Rattle.std.specs.Prelude.{◌≡◌, ℕ, zero, suc, ◌==◌, nat_lt, not, ◌&&◌, ◌||◌, List, [], ◌∷◌, ◌++◌, map, take, Option, None, Some, option_map, slice_get, refl}
use Rattle.std.specs.List.{All}
use Rattle.std.proofs.Common.{ap, ◌∙◌, sym, subst}
use Rattle.std.proofs.lemmas.List.{map-append}
use Rattle.std.proofs.lemmas.List.Elements.{All-cons, All-head, All-nil, All-tail}
use Rattle.std.proofs.lemmas.Option.{slice_get-map}
use Rattle.net_semantics.specs.Steps.{comes_first, copied, delivered, flies_among, is_first}
use Rattle.net_semantics.specs.Worlds.{Packet, World, change_at, copies, copies_of, ends, ends_of, sent_by}
use Rattle.vst_base.specs.Nets.{Copied, Delivered, Fate, Lost}
use Rattle.vst_base.specs.declared.stack.StackId.{StackId}
use Rattle.wire_fields.specs.Formats.{Format}
use Rattle.wired.specs.WiredRuns.{IsSpelledPacket, packet_in_bytes, world_in_bytes}
use Rattle.wired.specs.Wiring.{sent}

-- what holds of a list in which one packet has a copy more or less, or that grew, held of the list before
all_before : {X : Type 0} (P : X → Type 0) (g : X → X) → ((x : X) → P (g x) → P x) → (k : ℕ) (xs : List X) → All P (change_at g k xs) → All P xs
all_before P g same k [] all = All-nil P
all_before P g same zero (x ∷ xs) all = All-cons P x xs (same x (All-head P (g x) xs all)) (All-tail P (g x) xs all)
all_before P g same (suc k) (x ∷ xs) all =
    All-cons P x xs (All-head P x (change_at g k xs) all) (all_before P g same k xs (All-tail P x (change_at g k xs) all))

pub all_front : {X : Type 0} (P : X → Type 0) (xs ys : List X) → All P (xs ++ ys) → All P xs
all_front P [] ys all = All-nil P
all_front P (x ∷ xs) ys all = All-cons P x xs (All-head P x (xs ++ ys) all) (all_front P xs ys (All-tail P x (xs ++ ys) all))

pub all_at : {X : Type 0} (P : X → Type 0) (xs : List X) (k : ℕ) (x : X) → All P xs → slice_get xs k ≡ Some x → P x
all_at P [] k x all e = cc
all_at P (y ∷ ys) zero x all e = let same : y ≡ x = cc in subst P same (All-head P y ys all)
all_at P (y ∷ ys) (suc k) x all e = all_at P ys k x (All-tail P y ys all) e

map-change_at : {X Y : Type 0} (v : X → Y) (g : X → X) (h : Y → Y) → ((x : X) → v (g x) ≡ h (v x)) → (k : ℕ) (xs : List X) → map v (change_at g k xs) ≡ change_at h k (map v xs)
map-change_at v g h same k [] = refl
map-change_at v g h same zero (x ∷ xs) = ap (λ y. y ∷ map v xs) (same x)
map-change_at v g h same (suc k) (x ∷ xs) = ap (λ ys. v x ∷ ys) (map-change_at v g h same k xs)

module _ {M : Type 0} (f : Format M) (stack : StackId) (name : List ℕ) where
  abbrev bytes : Packet M → Packet (List ℕ)
  bytes p = packet_in_bytes f stack name p

  pub sent_in_bytes : (n : ℕ) (sends : List (ℕ × M)) → sent_by n (sent f stack name n sends) ≡ map bytes (sent_by n sends)
  sent_in_bytes n [] = refl
  sent_in_bytes n (p ∷ sends) = ap (λ ps. bytes (record { source = n; destination = p.0; content = p.1; copies = 1 }) ∷ ps) (sent_in_bytes n sends)

  pub joined_in_bytes : (n : ℕ) (ps : List (Packet M)) (sends : List (ℕ × M))
      → map bytes ps ++ sent_by n (sent f stack name n sends) ≡ map bytes (ps ++ sent_by n sends)
  joined_in_bytes n ps sends = ap (λ qs. map bytes ps ++ qs) (sent_in_bytes n sends) ∙ sym (map-append bytes ps (sent_by n sends))

  pub copied_in_bytes : (fate : Fate) (k : ℕ) (ps : List (Packet M)) → map bytes (change_at (copied fate) k ps) ≡ change_at (copied fate) k (map bytes ps)
  copied_in_bytes fate k ps = map-change_at bytes (copied fate) (copied fate) (same_bytes fate) k ps
    where
      same_bytes : (fate : Fate) (p : Packet M) → bytes (copied fate p) ≡ copied fate (bytes p)
      same_bytes Delivered p = refl
      same_bytes Copied p = refl
      same_bytes Lost p = refl

  pub spelled_before : (fate : Fate) (k : ℕ) (ps : List (Packet M)) → All (IsSpelledPacket f stack name) (change_at (copied fate) k ps) → All (IsSpelledPacket f stack name) ps
  spelled_before fate k ps all = all_before (IsSpelledPacket f stack name) (copied fate) (as_spelled fate) k ps all
    where
      as_spelled : (fate : Fate) (p : Packet M) → IsSpelledPacket f stack name (copied fate p) → IsSpelledPacket f stack name p
      as_spelled Delivered p is = is
      as_spelled Copied p is = is
      as_spelled Lost p is = is

  pub delivered_in_bytes : (fate : Fate) (o : Option (Packet M)) → delivered fate (option_map bytes o) ≡ option_map bytes (delivered fate o)
  delivered_in_bytes Delivered o = refl
  delivered_in_bytes Copied o = refl
  delivered_in_bytes Lost o = refl

  among_in_bytes : (e : ℕ × ℕ) (k : ℕ) (ps : List (Packet M)) → flies_among e (take k (map bytes ps)) ≡ flies_among e (take k ps)
  among_in_bytes e zero ps = refl
  among_in_bytes e (suc k) [] = refl
  among_in_bytes e (suc k) (p ∷ ps) = ap (λ b. ((p.source == e.0) && ((p.destination == e.1) && nat_lt 0 p.copies)) || b) (among_in_bytes e k ps)

  pub there_in_bytes : (ps : List (Packet M)) (k : ℕ) → slice_get (map bytes ps) k ≡ option_map bytes (slice_get ps k)
  there_in_bytes ps k = slice_get-map bytes ps k

  module _ {S K : Type 0} (w : World S K M) where
    same_copies : (o : Option (Packet M)) → copies_of (option_map bytes o) ≡ copies_of o
    same_copies None = refl
    same_copies (Some p) = refl

    same_ends : (o : Option (Packet M)) → ends_of (option_map bytes o) ≡ ends_of o
    same_ends None = refl
    same_ends (Some p) = refl

    pub copies_in_bytes : (k : ℕ) → copies (world_in_bytes f stack name w) k ≡ copies w k
    copies_in_bytes k = ap copies_of (there_in_bytes w.packets k) ∙ same_copies (slice_get w.packets k)

    pub ends_in_bytes : (k : ℕ) → ends (world_in_bytes f stack name w) k ≡ ends w k
    ends_in_bytes k = ap ends_of (there_in_bytes w.packets k) ∙ same_ends (slice_get w.packets k)

    same_first : (o : Option (ℕ × ℕ)) (k : ℕ) → comes_first o (take k (world_in_bytes f stack name w).packets) ≡ comes_first o (take k w.packets)
    same_first None k = refl
    same_first (Some e) k = ap not (among_in_bytes e k w.packets)

    pub first_in_bytes : (k : ℕ) → is_first (world_in_bytes f stack name w) k ≡ is_first w k
    first_in_bytes k = ap (λ o. comes_first o (take k (world_in_bytes f stack name w).packets)) (ends_in_bytes k) ∙ same_first (ends w k) k
