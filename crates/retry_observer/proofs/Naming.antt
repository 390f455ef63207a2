-- The names of packets, after more of them.
use Rattle.std.specs.Prelude.{◌≡◌, ℕ, zero, suc, ◌<◌, ◌==◌, ◌&&◌, ◌||◌, nat_eq, nat_lt, Bool, true, false, List, [], ◌∷◌, ◌++◌, length, Option, Some, None, is_some, option_map, if◌then◌else◌}
use Rattle.std.specs.List.{list_any}
use Rattle.std.proofs.Common.{ap, append_assoc, arith, refl, sym, ◌∙◌}
use Rattle.std.proofs.lemmas.Bool.Decides.{nat_tests}
use Rattle.std.proofs.lemmas.List.{append-nil}
use Rattle.std.proofs.lemmas.List.Folds.{list_any-append}
use Rattle.retry_xform.specs.Image.{is_same, place_of, with_name}
use Rattle.retry_xform.proofs.Names.{place-kept, place-there, with-known}
use Rattle.retry_observer.specs.Places.{all_carried, carried_by, named, named_from, numbers_at, up_to, with_number}

pub named-append : (ns : List (ℕ × ℕ)) (bs cs : List (ℕ × Option ℕ)) → named_from ns (bs ++ cs) ≡ named_from (named_from ns bs) cs
named-append ns [] cs = refl
named-append ns (b ∷ bs) cs = named-append (with_number b.0 b.1 ns) bs cs

pub with-fresh : (a : ℕ × ℕ) (ns : List (ℕ × ℕ)) → place_of a ns ≡ None → with_name a ns ≡ ns ++ a ∷ []
with-fresh a ns none = rw none refl

-- a name that was added is there
pub with-there : (a : ℕ × ℕ) (ns : List (ℕ × ℕ)) → (j : ℕ) × (place_of a (with_name a ns) ≡ Some j)
with-there a ns = by-place (place_of a ns) refl where
  by-place : (o : Option ℕ) → place_of a ns ≡ o → (j : ℕ) × (place_of a (with_name a ns) ≡ Some j)
  by-place None none = (length ns, ap (place_of a) (with-fresh a ns none) ∙ place-there a ns [] none)
  by-place (Some j) at = (j, ap (place_of a) (with-known a ns j at) ∙ at)

-- names stay, and others come after them
pub record Grows (ns ms : List (ℕ × ℕ)) : Type 0 where
  pub more : List (ℕ × ℕ)
  pub is : ms ≡ ns ++ more

grows-with : (a : ℕ × ℕ) (ns : List (ℕ × ℕ)) → Grows ns (with_name a ns)
grows-with a ns = by-place (place_of a ns) refl where
  by-place : (o : Option ℕ) → place_of a ns ≡ o → Grows ns (with_name a ns)
  by-place None none = record { more = a ∷ []; is = with-fresh a ns none }
  by-place (Some j) at = record { more = []; is = with-known a ns j at ∙ sym (append-nil ns) }

grows-number : (n : ℕ) (o : Option ℕ) (ns : List (ℕ × ℕ)) → Grows ns (with_number n o ns)
grows-number n None ns = record { more = []; is = sym (append-nil ns) }
grows-number n (Some x) ns = grows-with (n, x) ns

pub grows-named : (ns : List (ℕ × ℕ)) (bs : List (ℕ × Option ℕ)) → Grows ns (named_from ns bs)
grows-named ns [] = record { more = []; is = sym (append-nil ns) }
grows-named ns (b ∷ bs) =
    let one = grows-number b.0 b.1 ns in
    let rest = grows-named (with_number b.0 b.1 ns) bs in
    record { more = one.more ++ rest.more; is = rest.is ∙ (ap (λ l. l ++ rest.more) one.is ∙ append_assoc ns one.more rest.more) }

-- a packet that was sent carries the same, whatever is sent after it
pub carried-there : (n x : ℕ) (ns : List (ℕ × ℕ)) (bs : List (ℕ × Option ℕ)) → (j : ℕ) × (place_of (n, x) (named_from (with_name (n, x) ns) bs) ≡ Some j)
carried-there n x ns bs =
    let there = with-there (n, x) ns in
    let grows = grows-named (with_name (n, x) ns) bs in
    (there.0, ap (place_of (n, x)) grows.is ∙ place-kept (n, x) (with_name (n, x) ns) grows.more there.0 there.1)

one-stays : (n : ℕ) (o : Option ℕ) (ns more : List (ℕ × ℕ)) (bs : List (ℕ × Option ℕ)) → carried_by (named_from (with_number n o ns) bs ++ more) n o ≡ carried_by (named_from (with_number n o ns) bs) n o
one-stays n None ns more bs = refl
one-stays n (Some x) ns more bs =
    let there = carried-there n x ns bs in
    place-kept (n, x) (named_from (with_name (n, x) ns) bs) more there.0 there.1 ∙ sym there.1

pub all-stay : (ns more : List (ℕ × ℕ)) (bs : List (ℕ × Option ℕ)) → all_carried (named_from ns bs ++ more) bs ≡ all_carried (named_from ns bs) bs
all-stay ns more [] = refl
all-stay ns more (b ∷ bs) = λ i. one-stays b.0 b.1 ns more bs i ∷ all-stay (with_number b.0 b.1 ns) more bs i

-- one name more
pub place-push : (a b : ℕ × ℕ) (ns : List (ℕ × ℕ)) → is_same a b ≡ false → place_of a (ns ++ b ∷ []) ≡ place_of a ns
place-push a b [] other = rw other refl
place-push a b (c ∷ ns) other = ap (λ o. if is_same a c then Some 0 else option_map suc o) (place-push a b ns other)

pub numbers-push : (n : ℕ) (a : ℕ × ℕ) (ns : List (ℕ × ℕ)) → numbers_at n (ns ++ a ∷ []) ≡ (if n == a.0 then numbers_at n ns ++ a.1 ∷ [] else numbers_at n ns)
numbers-push n a [] = refl
numbers-push n a (b ∷ ns) = rw (numbers-push n a ns) (by-case (n == a.0) (n == b.0)) where
  after : List ℕ → Bool → List ℕ
  after ks c = if c then b.1 ∷ ks else ks

  by-case : (c d : Bool) → after (if c then numbers_at n ns ++ a.1 ∷ [] else numbers_at n ns) d ≡ (if c then after (numbers_at n ns) d ++ a.1 ∷ [] else after (numbers_at n ns) d)
  by-case true true = refl
  by-case true false = refl
  by-case false d = refl

-- where a node's names have the numbers 0, 1 and so on, so many, those below this are there, and no other is
any-at : (n y : ℕ) (ns : List (ℕ × ℕ)) → is_some (place_of (n, y) ns) ≡ list_any (nat_eq y) (numbers_at n ns)
any-at n y [] = refl
any-at n y (a ∷ ns) = by-case (n == a.0) (y == a.1) refl (place_of (n, y) ns) (any-at n y ns) where
  mapped : (o : Option ℕ) → is_some (option_map suc o) ≡ is_some o
  mapped None = refl
  mapped (Some j) = refl

  by-case : (c d : Bool) → (y == a.1) ≡ d → (o : Option ℕ) → is_some o ≡ list_any (nat_eq y) (numbers_at n ns)
      → is_some (if c && d then Some 0 else option_map suc o) ≡ list_any (nat_eq y) (if c then a.1 ∷ numbers_at n ns else numbers_at n ns)
  by-case true true is o e = rw is refl
  by-case true false is o e = rw is (mapped o ∙ e)
  by-case false d is o e = mapped o ∙ e

any-up_to : (y x : ℕ) → list_any (nat_eq y) (up_to x) ≡ nat_lt y x
any-up_to y zero = grind (arith, nat_tests)
any-up_to y (suc x) = list_any-append (nat_eq y) (up_to x) (x ∷ []) ∙ (ap (λ b. b || (nat_eq y x || false)) (any-up_to y x) ∙ last) where
  last : (nat_lt y x || (nat_eq y x || false)) ≡ nat_lt y (suc x)
  last = grind (arith, nat_tests)

pub numbered : (n x y : ℕ) (ns : List (ℕ × ℕ)) → numbers_at n ns ≡ up_to x → is_some (place_of (n, y) ns) ≡ nat_lt y x
numbered n x y ns in_turn = any-at n y ns ∙ (ap (list_any (nat_eq y)) in_turn ∙ any-up_to y x)

pub is-unused : (n x : ℕ) (ns : List (ℕ × ℕ)) → numbers_at n ns ≡ up_to x → place_of (n, x) ns ≡ None
is-unused n x ns in_turn = by-place (place_of (n, x) ns) (numbered n x x ns in_turn) where
  by-place : (o : Option ℕ) → is_some o ≡ nat_lt x x → o ≡ None
  by-place None e = refl
  by-place (Some j) e = absurd (grind (arith, nat_tests, e))

pub is-used : (n x y : ℕ) (ns : List (ℕ × ℕ)) → numbers_at n ns ≡ up_to x → y < x → (j : ℕ) × (place_of (n, y) ns ≡ Some j)
is-used n x y ns in_turn below = by-place (place_of (n, y) ns) (numbered n x y ns in_turn) where
  by-place : (o : Option ℕ) → is_some o ≡ nat_lt y x → (j : ℕ) × (o ≡ Some j)
  by-place None e = absurd (grind (arith, nat_tests, e, below))
  by-place (Some j) e = (j, refl)

-- a node's next number is a new name
pub named-new : (bs : List (ℕ × Option ℕ)) (n x : ℕ) → numbers_at n (named bs) ≡ up_to x → named (bs ++ (n, Some x) ∷ []) ≡ named bs ++ (n, x) ∷ []
named-new bs n x in_turn = named-append [] bs ((n, Some x) ∷ []) ∙ with-fresh (n, x) (named bs) (is-unused n x (named bs) in_turn)
