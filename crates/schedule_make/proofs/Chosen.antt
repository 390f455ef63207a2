-- What a candidate that is chosen keeps to.
use Rattle.std.proofs.Common.{◌≡◌, ℕ, zero, suc, ◌+◌, ◌<◌, ◌≤◌, Bool, true, false, cond, List, [], ◌∷◌, ◌++◌, length, get_or, Some, refl, sym, ap, ◌∙◌, arith}
use Rattle.std.specs.List.{filter, range_with_len, slice_get}
use Rattle.flight_index.specs.Flights.{numbers_of}

-- one of the nodes from a on that pass
pub record IsNode (p : ℕ → Bool) (a n c : ℕ) : Type 0 where
  pub passes : p c ≡ true
  pub from : a ≤ c
  pub below : c < a + n

first-node : (b : Bool) (p : ℕ → Bool) (a n i : ℕ) (cs : List ℕ) → p a ≡ b → i < length (cond b (a ∷ cs) cs)
    → ((j : ℕ) → j < length cs → IsNode p (a + 1) n (get_or cs j 0)) → IsNode p a (suc n) (get_or (cond b (a ∷ cs) cs) i 0)
first-node true p a n zero cs e h later = record { passes = e; from = omega arith; below = omega arith }
first-node true p a n (suc i) cs e h later =
    let l = later i (omega (arith, h)) in
    record { passes = l.passes; from = omega (arith, l.from); below = omega (arith, l.below) }
first-node false p a n i cs e h later =
    let l = later i h in
    record { passes = l.passes; from = omega (arith, l.from); below = omega (arith, l.below) }

pub node-at : (p : ℕ → Bool) (a n i : ℕ) → i < length (filter p (range_with_len a n)) → IsNode p a n (get_or (filter p (range_with_len a n)) i 0)
node-at p a zero i h = absurd (omega (arith, h))
node-at p a (suc n) i h = first-node (p a) p a n i (filter p (range_with_len (a + 1) n)) refl h (λ j below. node-at p (a + 1) n j below)

-- one of the packets that pass, of which the first has the number 'from'
pub record IsOne {X : Type 0} (p : X → Bool) (from : ℕ) (xs : List X) (c : ℕ) : Type 0 where
  pub item : X
  pub place : ℕ
  pub number : c ≡ from + place
  pub is : slice_get xs place ≡ Some item
  pub passes : p item ≡ true

first-one : {X : Type 0} (b : Bool) (p : X → Bool) (from i : ℕ) (x : X) (xs : List X) (cs : List ℕ) → p x ≡ b → i < length (cond b (from ∷ cs) cs)
    → ((j : ℕ) → j < length cs → IsOne p (from + 1) xs (get_or cs j 0)) → IsOne p from (x ∷ xs) (get_or (cond b (from ∷ cs) cs) i 0)
first-one true p from zero x xs cs e h later = record { item = x; place = 0; number = omega arith; is = refl; passes = e }
first-one true p from (suc i) x xs cs e h later =
    let l = later i (omega (arith, h)) in
    record { item = l.item; place = suc l.place; number = omega (arith, l.number); is = l.is; passes = l.passes }
first-one false p from i x xs cs e h later =
    let l = later i h in
    record { item = l.item; place = suc l.place; number = omega (arith, l.number); is = l.is; passes = l.passes }

pub one-at : {X : Type 0} (p : X → Bool) (from : ℕ) (xs : List X) (i : ℕ) → i < length (numbers_of p from xs) → IsOne p from xs (get_or (numbers_of p from xs) i 0)
one-at p from [] i h = absurd (omega (arith, h))
one-at p from (x ∷ xs) i h = first-one (p x) p from i x xs (numbers_of p (from + 1) xs) refl h (λ j below. one-at p (from + 1) xs j below)

-- one of those that pass a further test
pub record IsAmong (t : ℕ → Bool) (cs : List ℕ) (c : ℕ) : Type 0 where
  pub place : ℕ
  pub inside : place < length cs
  pub same : c ≡ get_or cs place 0
  pub passes : t (get_or cs place 0) ≡ true

first-among : (b : Bool) (t : ℕ → Bool) (x : ℕ) (xs : List ℕ) (i : ℕ) → t x ≡ b → i < length (cond b (x ∷ filter t xs) (filter t xs))
    → ((j : ℕ) → j < length (filter t xs) → IsAmong t xs (get_or (filter t xs) j 0)) → IsAmong t (x ∷ xs) (get_or (cond b (x ∷ filter t xs) (filter t xs)) i 0)
first-among true t x xs zero e h later = record { place = 0; inside = omega arith; same = refl; passes = e }
first-among true t x xs (suc i) e h later =
    let l = later i (omega (arith, h)) in
    record { place = suc l.place; inside = omega (arith, l.inside); same = l.same; passes = l.passes }
first-among false t x xs i e h later =
    let l = later i h in
    record { place = suc l.place; inside = omega (arith, l.inside); same = l.same; passes = l.passes }

pub filtered-at : (t : ℕ → Bool) (cs : List ℕ) (i : ℕ) → i < length (filter t cs) → IsAmong t cs (get_or (filter t cs) i 0)
filtered-at t [] i h = absurd (omega (arith, h))
filtered-at t (x ∷ xs) i h = first-among (t x) t x xs i refl h (λ j below. filtered-at t xs j below)

-- one node more
filter-more : (p : ℕ → Bool) (a n : ℕ) → filter p (range_with_len a (suc n)) ≡ filter p (range_with_len a n) ++ cond (p (a + n)) ((a + n) ∷ []) []
filter-more p a zero = let e : a + 0 ≡ a = omega arith in sym (ap (λ k. cond (p k) (k ∷ []) []) e)
filter-more p a (suc n) =
    let e : a + 1 + n ≡ a + suc n = omega arith in
    front (p a) a (filter p (range_with_len (a + 1) (suc n))) (filter p (range_with_len (a + 1) n)) (cond (p (a + suc n)) ((a + suc n) ∷ []) [])
    (filter-more p (a + 1) n ∙ ap (λ k. filter p (range_with_len (a + 1) n) ++ cond (p k) (k ∷ []) []) e)
  where
    front : (b : Bool) (a : ℕ) (xs ys zs : List ℕ) → xs ≡ ys ++ zs → cond b (a ∷ xs) xs ≡ cond b (a ∷ ys) ys ++ zs
    front true a xs ys zs h = ap (λ ks. a ∷ ks) h
    front false a xs ys zs h = h

pub filter-next : (p : ℕ → Bool) (n : ℕ) (b : Bool) → p n ≡ b → filter p (range_with_len 0 (n + 1)) ≡ filter p (range_with_len 0 n) ++ cond b (n ∷ []) []
filter-next p n b is =
    let on : n + 1 ≡ suc n = omega arith in
    let here : 0 + n ≡ n = omega arith in
    ap (λ k. filter p (range_with_len 0 k)) on ∙ filter-more p 0 n
    ∙ ap (λ k. filter p (range_with_len 0 n) ++ cond (p k) (k ∷ []) []) here
    ∙ ap (λ c. filter p (range_with_len 0 n) ++ cond c (n ∷ []) []) is
