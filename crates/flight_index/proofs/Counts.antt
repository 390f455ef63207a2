-- How many packets are in flight to each node, and to the nodes that are up.
use Rattle.std.proofs.Common.{◌≡◌, ◌≢◌, ℕ, zero, suc, ◌+◌, ◌-◌, ◌<◌, ◌≤◌, Bool, true, false, cond, ◌&&◌, eqb, ltb, ◌⊎◌, List, [], ◌∷◌, ◌++◌, length, get_or, set, replicate, Option, Some, None, is_some, refl, ap, sym, subst, ◌∙◌, inl, inr, arith, length-append}
use Rattle.std.specs.List.{count_by, list_all}
use Rattle.std.proofs.lemmas.Bool.{lt-ltb, le-ltb, ltb-true, eq-eqb}
use Rattle.std.proofs.lemmas.Bool.Decides.{eqb_tells, leb_tells}
use Rattle.std.proofs.lemmas.List.{get_or-replicate, get_or-set_other, length-set, set-get_or}
use Rattle.std.proofs.lemmas.List.Sums.{sum_by-set, sum_by_push, count_by-le-length}
use Rattle.std.proofs.lemmas.Grind.{get_or-set_at}
use Rattle.std.proofs.lemmas.List.Folds.{list_all-append}
use Rattle.vst_base.specs.declared.node.TheConstants.{MAX_NODES}
use Rattle.flight_index.proofs.Ranks.{count-cons, length_numbers_of}
use Rattle.flight_index.specs.Flights.{numbers_of, goes_up, goes_to, is_within, IsCounted}

-- whether a copy is in flight to a node below k that is up
abbrev pub goes_below : ℕ → List Bool → Option ℕ → Bool
goes_below k up None = false
goes_below k up (Some d) = ltb d k && get_or up d false

and_first : (a b : Bool) → (a && b) ≡ true → a ≡ true
and_first true b h = refl
and_first false b h = h

and_rest : (a b : Bool) → (a && b) ≡ true → b ≡ true
and_rest true b h = h
and_rest false b h = cc

at-node : (u v : Bool) → u ≡ v → cond u 1 0 ≡ 0 + cond v 1 0
at-node true true e = refl
at-node false false e = refl
at-node true false e = cc
at-node false true e = cc

hit : (p q b u v : Bool) → p ≡ true → q ≡ false → b ≡ true → u ≡ v → cond (p && u) 1 0 ≡ cond (q && u) 1 0 + cond v (cond b 1 0) 0
hit true false true u v hp hq hb e = at-node u v e
hit true false false u v hp hq hb e = cc
hit true true b u v hp hq hb e = cc
hit false q b u v hp hq hb e = cc

no-more : (v : Bool) (n : ℕ) → n ≡ n + cond v 0 0
no-more true n = omega arith
no-more false n = omega arith

missed : (p q b u v : Bool) → p ≡ q → b ≡ false → cond (p && u) 1 0 ≡ cond (q && u) 1 0 + cond v (cond b 1 0) 0
missed true true false u v e hb = no-more v (cond u 1 0)
missed false false false u v e hb = no-more v 0
missed true true true u v e hb = cc
missed false false true u v e hb = cc
missed true false b u v e hb = cc
missed false true b u v e hb = cc

-- a node other than k is below k + 1 where it is below k
below-other : (d k : ℕ) → d ≢ k → ltb d (k + 1) ≡ ltb d k
below-other d k other = elim (leb_tells (suc d) k) [
  | inl w ↦ lt-ltb d (k + 1) (omega (arith, w.1)) ∙ sym w.0
  | inr w ↦ le-ltb d (k + 1) (omega (arith, w.1, other)) ∙ sym w.0
]

-- d is k or another node
below-cases : (b : Bool) (u v : Bool) (d k : ℕ) → (b ≡ true) × (d ≡ k) ⊎ (b ≡ false) × (d ≢ k) → (d ≡ k → u ≡ v)
    → cond (ltb d (k + 1) && u) 1 0 ≡ cond (ltb d k && u) 1 0 + cond v (cond b 1 0) 0
below-cases b u v d k (inl w) e = hit (ltb d (k + 1)) (ltb d k) b u v (lt-ltb d (k + 1) (omega (arith, w.1))) (le-ltb d k (omega (arith, w.1))) w.0 (e w.1)
below-cases b u v d k (inr w) e = missed (ltb d (k + 1)) (ltb d k) b u v (below-other d k w.1) w.0

-- of one packet: one node more may be looked at
one-below : (k : ℕ) (up : List Bool) (o : Option ℕ)
    → cond (goes_below (k + 1) up o) 1 0 ≡ cond (goes_below k up o) 1 0 + cond (get_or up k false) (cond (goes_to k o) 1 0) 0
one-below k up None = elim (get_or up k false) as (λ b. 0 ≡ 0 + cond b 0 0) [ true ↦ refl | false ↦ refl ]
one-below k up (Some d) = below-cases (eqb d k) (get_or up d false) (get_or up k false) d k (eqb_tells d k) (λ e. ap (λ n. get_or up n false) e)

add-chosen : (b : Bool) (a m n : ℕ) → cond b (m + n) 0 + a ≡ cond b m 0 + (a + cond b n 0)
add-chosen true a m n = omega arith
add-chosen false a m n = omega arith

-- one node more is looked at
pub count-below : (k : ℕ) (up : List Bool) (xs : List (Option ℕ))
    → count_by (goes_below (k + 1) up) xs ≡ count_by (goes_below k up) xs + cond (get_or up k false) (count_by (goes_to k) xs) 0
count-below k up [] = elim (get_or up k false) as (λ b. 0 ≡ 0 + cond b 0 0) [ true ↦ refl | false ↦ refl ]
count-below k up (x ∷ xs) =
    let ih = count-below k up xs in
    let a = count-cons (goes_below (k + 1) up) x xs in
    let b = count-cons (goes_below k up) x xs in
    let c = ap (λ n. cond (get_or up k false) n 0) (count-cons (goes_to k) x xs) in
    let one = one-below k up x in
    let both = add-chosen (get_or up k false) 0 (cond (goes_to k x) 1 0) (count_by (goes_to k) xs) in
    omega (arith, ih, a, b, c, one, both)

-- tests that agree on each packet agree on how many there are, and on which
pub count-same : (p q r : Option ℕ → Bool) (xs : List (Option ℕ)) → list_all r xs ≡ true → ((x : Option ℕ) → r x ≡ true → p x ≡ q x)
    → count_by p xs ≡ count_by q xs
count-same p q r [] within same = refl
count-same p q r (x ∷ xs) within same =
    let ih = count-same p q r xs (and_rest (r x) (list_all r xs) within) same in
    let e = ap {B = ℕ} (λ b. cond b 1 0) (same x (and_first (r x) (list_all r xs) within)) in
    omega (arith, count-cons p x xs, count-cons q x xs, ih, e)

pub numbers-same : (p q r : Option ℕ → Bool) (n : ℕ) (xs : List (Option ℕ)) → list_all r xs ≡ true → ((x : Option ℕ) → r x ≡ true → p x ≡ q x)
    → numbers_of p n xs ≡ numbers_of q n xs
numbers-same p q r n [] within same = refl
numbers-same p q r n (x ∷ xs) within same =
    let ih = numbers-same p q r (n + 1) xs (and_rest (r x) (list_all r xs) within) same in
    let e = same x (and_first (r x) (list_all r xs) within) in
    ap (λ l. cond (p x) (n ∷ l) l) ih ∙ ap (λ b. cond b (n ∷ numbers_of q (n + 1) xs) (numbers_of q (n + 1) xs)) e

-- no node is below 0
below-none : (up : List Bool) (x : Option ℕ) → goes_below 0 up x ≡ false
below-none up None = refl
below-none up (Some d) = ap (λ b. b && get_or up d false) (le-ltb d 0 (omega arith))

pub count-below_none : (up : List Bool) (xs : List (Option ℕ)) → 0 ≡ count_by (goes_below 0 up) xs
count-below_none up [] = refl
count-below_none up (x ∷ xs) =
    let e = ap {B = ℕ} (λ b. cond b 1 0) (below-none up x) in
    let ih = count-below_none up xs in
    omega (arith, count-cons (goes_below 0 up) x xs, ih, e)

below-all : (up : List Bool) (x : Option ℕ) → is_within x ≡ true → goes_below MAX_NODES up x ≡ goes_up up x
below-all up None within = refl
below-all up (Some d) within = ap (λ b. b && get_or up d false) within

-- each destination is below the number of nodes
pub count-below_all : (up : List Bool) (xs : List (Option ℕ)) → list_all is_within xs ≡ true
    → count_by (goes_below MAX_NODES up) xs ≡ count_by (goes_up up) xs
count-below_all up xs within = count-same (goes_below MAX_NODES up) (goes_up up) is_within xs within (below-all up)

-- where each node is up a packet is chosen where a copy is in flight
pub goes-anywhere : (x : Option ℕ) → is_within x ≡ true → goes_up (replicate MAX_NODES true) x ≡ is_some x
goes-anywhere None within = refl
goes-anywhere (Some d) within = get_or-replicate MAX_NODES d true false (ltb-true d MAX_NODES within)

-- where each node is up, the packets that are chosen are those in flight: how many they are, and which
pub count_anywhere : (xs : List (Option ℕ)) → list_all is_within xs ≡ true
    → count_by (goes_up (replicate MAX_NODES true)) xs ≡ length (numbers_of (is_some {T = ℕ}) 0 xs)
count_anywhere xs within =
    count-same (goes_up (replicate MAX_NODES true)) is_some is_within xs within goes-anywhere ∙ sym (length_numbers_of is_some 0 xs)

pub numbers_anywhere : (xs : List (Option ℕ)) → list_all is_within xs ≡ true
    → numbers_of (goes_up (replicate MAX_NODES true)) 0 xs ≡ numbers_of (is_some {T = ℕ}) 0 xs
numbers_anywhere xs within = numbers-same (goes_up (replicate MAX_NODES true)) is_some is_within 0 xs within goes-anywhere

-- how many are in flight to a node, after one packet more
each-more : (xs : List (Option ℕ)) (counts : List ℕ) (to d : ℕ) → (eqb to d ≡ true) × (to ≡ d) ⊎ (eqb to d ≡ false) × (to ≢ d) → to < length counts
    → get_or counts d 0 ≡ count_by (goes_to d) xs → get_or (set counts to (get_or counts to 0 + 1)) d 0 ≡ count_by (goes_to d) (xs ++ Some to ∷ [])
each-more xs counts to d (inl w) within e =
    let a = get_or-set_at counts to d (get_or counts to 0 + 1) 0 (sym w.1) within in
    let b = ap {B = ℕ} (λ m. get_or counts m 0) w.1 in
    let c = sum_by_push (λ x. cond (goes_to d x) 1 0) xs (Some to) in
    let f = ap {B = ℕ} (λ b. cond b 1 0) w.0 in
    omega (arith, a, b, c, f, e)
each-more xs counts to d (inr w) within e =
    let a = get_or-set_other counts to d (get_or counts to 0 + 1) 0 (λ q. w.1 (sym q)) in
    let c = sum_by_push (λ x. cond (goes_to d x) 1 0) xs (Some to) in
    let f = ap {B = ℕ} (λ b. cond b 1 0) w.0 in
    omega (arith, a, c, f, e)

-- the counts after one packet more
pub counted-more : {xs : List (Option ℕ)} {n to : ℕ} {counts : List ℕ} → IsCounted xs n counts → to < MAX_NODES
    → IsCounted (xs ++ Some to ∷ []) (n + 1) (set counts to (get_or counts to 0 + 1))
counted-more {xs} {n} {to} {counts} h within = record {
  size = length-set counts to (get_or counts to 0 + 1) ∙ h.size;
  number = omega (arith, h.number, length-append xs (Some to ∷ []));
  within = list_all-append is_within xs (Some to ∷ []) ∙ (ap (λ b. b && (ltb to MAX_NODES && true)) h.within ∙ ap (λ b. b && true) (lt-ltb to MAX_NODES within));
  each = λ d below. each-more xs counts to d (eqb_tells to d) (omega (arith, h.size, within)) (h.each d below);
}

-- each is within where one left
pub within-less : (xs : List (Option ℕ)) (k : ℕ) → list_all is_within xs ≡ true → list_all is_within (set xs k None) ≡ true
within-less [] k h = h
within-less (x ∷ xs) zero h = and_rest (is_within x) (list_all is_within xs) h
within-less (x ∷ xs) (suc k) h =
    ap (λ b. b && list_all is_within (set xs k None)) (and_first (is_within x) (list_all is_within xs) h)
    ∙ within-less xs k (and_rest (is_within x) (list_all is_within xs) h)

-- the destination of one
within-at : (xs : List (Option ℕ)) (k to : ℕ) → list_all is_within xs ≡ true → get_or xs k None ≡ Some to → ltb to MAX_NODES ≡ true
within-at [] k to h e = cc
within-at (x ∷ xs) zero to h e = subst (λ (o : Option ℕ). is_within o ≡ true) e (and_first (is_within x) (list_all is_within xs) h)
within-at (x ∷ xs) (suc k) to h e = within-at xs k to (and_rest (is_within x) (list_all is_within xs) h) e

-- how many are in flight to a node, after one left
each-less : (xs : List (Option ℕ)) (counts : List ℕ) (k to d : ℕ) → (eqb to d ≡ true) × (to ≡ d) ⊎ (eqb to d ≡ false) × (to ≢ d) → to < length counts
    → k < length xs → get_or xs k None ≡ Some to
    → get_or counts d 0 ≡ count_by (goes_to d) xs → get_or (set counts to (get_or counts to 0 - 1)) d 0 ≡ count_by (goes_to d) (set xs k None)
each-less xs counts k to d (inl w) within inside is e =
    let a = get_or-set_at counts to d (get_or counts to 0 - 1) 0 (sym w.1) within in
    let b = ap {B = ℕ} (λ m. get_or counts m 0) w.1 in
    let c = sum_by-set (λ x. cond (goes_to d x) 1 0) xs k None None inside in
    let f = ap {B = ℕ} (λ x. cond (goes_to d x) 1 0) is ∙ ap {B = ℕ} (λ b. cond b 1 0) w.0 in
    omega (arith, a, b, c, f, e)
each-less xs counts k to d (inr w) within inside is e =
    let a = get_or-set_other counts to d (get_or counts to 0 - 1) 0 (λ q. w.1 (sym q)) in
    let c = sum_by-set (λ x. cond (goes_to d x) 1 0) xs k None None inside in
    let f = ap {B = ℕ} (λ x. cond (goes_to d x) 1 0) is ∙ ap {B = ℕ} (λ b. cond b 1 0) w.0 in
    omega (arith, a, c, f, e)

-- the counts after one left
pub counted-less : {xs : List (Option ℕ)} {n k to : ℕ} {counts : List ℕ} → IsCounted xs n counts → k < length xs → get_or xs k None ≡ Some to
    → IsCounted (set xs k None) n (set counts to (get_or counts to 0 - 1))
counted-less {xs} {n} {k} {to} {counts} h inside is =
    let below = ltb-true to MAX_NODES (within-at xs k to h.within is) in
    record {
      number = h.number ∙ sym (length-set xs k None);
      size = length-set counts to (get_or counts to 0 - 1) ∙ h.size;
      within = within-less xs k h.within;
      each = λ d node. each-less xs counts k to d (eqb_tells to d) (omega (arith, h.size, below)) inside is (h.each d node);
    }

-- one that is not in flight is left out once more
pub left-already : (xs : List (Option ℕ)) (k : ℕ) → get_or xs k None ≡ None → set xs k None ≡ xs
left-already xs k e = subst (λ (o : Option ℕ). set xs k o ≡ xs) e (set-get_or xs k None)

-- one that is in flight is counted
pub counted-some : {xs : List (Option ℕ)} {n k to : ℕ} {counts : List ℕ} → IsCounted xs n counts → k < length xs → get_or xs k None ≡ Some to
    → (to < MAX_NODES) × (0 < get_or counts to 0)
counted-some {xs} {n} {k} {to} {counts} h inside is =
    let below = ltb-true to MAX_NODES (within-at xs k to h.within is) in
    let a = h.each to below in
    let c = sum_by-set (λ x. cond (goes_to to x) 1 0) xs k None None inside in
    let f = ap {B = ℕ} (λ x. cond (goes_to to x) 1 0) is ∙ ap {B = ℕ} (λ b. cond b 1 0) (eq-eqb to to refl) in
    (below, omega (arith, a, c, f))

-- the sum so far and one node more
pub total-more : {xs : List (Option ℕ)} {n : ℕ} {counts : List ℕ} (up : List Bool) (k total : ℕ) → IsCounted xs n counts → k < MAX_NODES
    → total ≡ count_by (goes_below k up) xs → get_or up k false ≡ true → total + get_or counts k 0 ≡ count_by (goes_below (k + 1) up) xs
total-more {xs} {n} {counts} up k total h below e is_up =
    let f = ap {B = ℕ} (λ b. cond b (count_by (goes_to k) xs) 0) is_up in
    omega (arith, h.each k below, e, count-below k up xs, f)

pub total-same : (xs : List (Option ℕ)) (up : List Bool) (k total : ℕ)
    → total ≡ count_by (goes_below k up) xs → get_or up k false ≡ false → total ≡ count_by (goes_below (k + 1) up) xs
total-same xs up k total e is_down =
    let f = ap {B = ℕ} (λ b. cond b (count_by (goes_to k) xs) 0) is_down in
    omega (arith, e, count-below k up xs, f)

pub total-fits : {xs : List (Option ℕ)} {n : ℕ} {counts : List ℕ} (up : List Bool) (k total : ℕ) → IsCounted xs n counts → k < MAX_NODES
    → total ≡ count_by (goes_below k up) xs → get_or up k false ≡ true → total + get_or counts k 0 ≤ n
total-fits {xs} up k total h below e is_up =
    omega (arith, total-more up k total h below e is_up, h.number, count_by-le-length (goes_below (k + 1) up) xs)

-- how many are in flight to a node, after one came back
each-back : (xs : List (Option ℕ)) (counts : List ℕ) (k to d : ℕ) → (eqb to d ≡ true) × (to ≡ d) ⊎ (eqb to d ≡ false) × (to ≢ d) → to < length counts
    → k < length xs → get_or xs k None ≡ None
    → get_or counts d 0 ≡ count_by (goes_to d) xs → get_or (set counts to (get_or counts to 0 + 1)) d 0 ≡ count_by (goes_to d) (set xs k (Some to))
each-back xs counts k to d (inl w) within inside is e =
    let a = get_or-set_at counts to d (get_or counts to 0 + 1) 0 (sym w.1) within in
    let b = ap {B = ℕ} (λ m. get_or counts m 0) w.1 in
    let c = sum_by-set (λ x. cond (goes_to d x) 1 0) xs k (Some to) None inside in
    let f = ap {B = ℕ} (λ x. cond (goes_to d x) 1 0) is in
    let g = ap {B = ℕ} (λ b. cond b 1 0) w.0 in
    omega (arith, a, b, c, f, g, e)
each-back xs counts k to d (inr w) within inside is e =
    let a = get_or-set_other counts to d (get_or counts to 0 + 1) 0 (λ q. w.1 (sym q)) in
    let c = sum_by-set (λ x. cond (goes_to d x) 1 0) xs k (Some to) None inside in
    let f = ap {B = ℕ} (λ x. cond (goes_to d x) 1 0) is in
    let g = ap {B = ℕ} (λ b. cond b 1 0) w.0 in
    omega (arith, a, c, f, g, e)

-- each is within where one came back
pub within-back : (xs : List (Option ℕ)) (k to : ℕ) → to < MAX_NODES → list_all is_within xs ≡ true → list_all is_within (set xs k (Some to)) ≡ true
within-back [] k to below h = h
within-back (x ∷ xs) zero to below h = ap (λ b. b && list_all is_within xs) (lt-ltb to MAX_NODES below) ∙ and_rest (is_within x) (list_all is_within xs) h
within-back (x ∷ xs) (suc k) to below h =
    ap (λ b. b && list_all is_within (set xs k (Some to))) (and_first (is_within x) (list_all is_within xs) h)
    ∙ within-back xs k to below (and_rest (is_within x) (list_all is_within xs) h)

-- the counts after one came back
pub counted-back : {xs : List (Option ℕ)} {n k to : ℕ} {counts : List ℕ} → IsCounted xs n counts → k < length xs → to < MAX_NODES → get_or xs k None ≡ None
    → IsCounted (set xs k (Some to)) n (set counts to (get_or counts to 0 + 1))
counted-back {xs} {n} {k} {to} {counts} h inside below is = record {
  number = h.number ∙ sym (length-set xs k (Some to));
  size = length-set counts to (get_or counts to 0 + 1) ∙ h.size;
  within = within-back xs k to below h.within;
  each = λ d node. each-back xs counts k to d (eqb_tells to d) (omega (arith, h.size, below)) inside is (h.each d node);
}

-- one that is not in flight is not counted yet
pub room-back : {xs : List (Option ℕ)} {n k to : ℕ} {counts : List ℕ} → IsCounted xs n counts → k < length xs → to < MAX_NODES → get_or xs k None ≡ None
    → get_or counts to 0 + 1 ≤ n
room-back {xs} {n} {k} {to} {counts} h inside below is =
    let c = sum_by-set (λ x. cond (goes_to to x) 1 0) xs k (Some to) None inside in
    let f = ap {B = ℕ} (λ x. cond (goes_to to x) 1 0) is in
    let g = ap {B = ℕ} (λ b. cond b 1 0) (eq-eqb to to refl) in
    let most = count_by-le-length (goes_to to) (set xs k (Some to)) in
    omega (arith, h.each to below, h.number, c, f, g, most, length-set xs k (Some to))
