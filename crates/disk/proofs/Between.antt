-- What one area may become where lengths between are left too, and what the laws need of a test.
use Rattle.std.proofs.Common.{◌≡◌, ◌↔◌, ℕ, suc, ◌+◌, ◌<◌, ◌≤◌, min, max, true, false, nat_eq, List, [], ◌∷◌, length, slice_get, refl, sym, subst, ◌∙◌, arith, ◌⊎◌, inl, inr, eqb-true, eq-eqb}
use Rattle.std.proofs.lemmas.Bool.{and_parts, and_from, or_cases, or_left, or_right, leb-true, le-leb, false≢true}
use Rattle.disk.specs.Disk.{Area, settled, IsSettled, written, cut, least, is_pending, agrees, is_one_of, may_become}
use Rattle.disk.specs.Between.{Crash, greatest, may_become_between}
use Rattle.disk.specs.DiskLaws.{PermitsBetween}
use Rattle.disk.proofs.Becoming.{agrees_says, says_agrees, becomes_self, says, permits, settled_is}
use Rattle.disk.proofs.Untouched.{Untouched, untouched_written, untouched_cut}

-- the least and the greatest are two of the lengths, and the others stand between

at_head : (x n : ℕ) (ls : List ℕ) → x ≡ n → is_one_of x (n ∷ ls) ≡ true
at_head x n ls e = or_left (nat_eq x n) (is_one_of x ls) (eq-eqb x n e)

in_rest : (x n : ℕ) (ls : List ℕ) → is_one_of x ls ≡ true → is_one_of x (n ∷ ls) ≡ true
in_rest x n ls h = or_right (nat_eq x n) (is_one_of x ls) h

which : (x n : ℕ) (ls : List ℕ) → is_one_of x (n ∷ ls) ≡ true → (x ≡ n) ⊎ (is_one_of x ls ≡ true)
which x n ls h = elim (or_cases (nat_eq x n) (is_one_of x ls) h) [ inl is ↦ inl (eqb-true x n is) | inr rest ↦ inr rest ]

in_longer : (x n m : ℕ) (ls : List ℕ) → is_one_of x (n ∷ ls) ≡ true → is_one_of x (n ∷ m ∷ ls) ≡ true
in_longer x n m ls h = elim (which x n ls h) [ inl is ↦ at_head x n (m ∷ ls) is | inr rest ↦ in_rest x n (m ∷ ls) (in_rest x m ls rest) ]

-- the head of the lengths before, or one that is one of the others
one_or_other : (x n m y : ℕ) (ls : List ℕ) → is_one_of y (n ∷ ls) ≡ true → (x ≡ m) ⊎ (x ≡ y) → is_one_of x (n ∷ m ∷ ls) ≡ true
one_or_other x n m y ls h (inl e) = in_rest x n (m ∷ ls) (at_head x m ls e)
one_or_other x n m y ls h (inr e) = subst (λ z. is_one_of z (n ∷ m ∷ ls) ≡ true) (sym e) (in_longer y n m ls h)

least_is_one : (n : ℕ) (ls : List ℕ) → is_one_of (least n ls) (n ∷ ls) ≡ true
least_is_one n [] = at_head n n [] refl
least_is_one n (m ∷ ls) = one_or_other (min m (least n ls)) n m (least n ls) ls (least_is_one n ls) (grind arith)

greatest_is_one : (n : ℕ) (ls : List ℕ) → is_one_of (greatest n ls) (n ∷ ls) ≡ true
greatest_is_one n [] = at_head n n [] refl
greatest_is_one n (m ∷ ls) = one_or_other (max m (greatest n ls)) n m (greatest n ls) ls (greatest_is_one n ls) (grind arith)

-- a length, in its place among the others
in_between : (x n : ℕ) (ls : List ℕ) → is_one_of x (n ∷ ls) ≡ true → (least n ls ≤ x) × (x ≤ greatest n ls)
in_between x n [] h = elim (which x n [] h) [ inl is ↦ (omega arith, omega arith) | inr none ↦ absurd (false≢true none) ]
in_between x n (m ∷ ls) h = go (λ one. in_between x n ls one) (which x n (m ∷ ls) h)
  where
    wider : (least n ls ≤ x) × (x ≤ greatest n ls) → (min m (least n ls) ≤ x) × (x ≤ max m (greatest n ls))
    wider k = let a = k.0 in let b = k.1 in (omega (arith, a), omega (arith, b))

    later : (is_one_of x (n ∷ ls) ≡ true → (least n ls ≤ x) × (x ≤ greatest n ls)) → (x ≡ m) ⊎ (is_one_of x ls ≡ true) →
        (min m (least n ls) ≤ x) × (x ≤ max m (greatest n ls))
    later ih (inl is) = (omega arith, omega arith)
    later ih (inr rest) = wider (ih (in_rest x n ls rest))

    go : (is_one_of x (n ∷ ls) ≡ true → (least n ls ≤ x) × (x ≤ greatest n ls)) → (x ≡ n) ⊎ (is_one_of x (m ∷ ls) ≡ true) →
        (min m (least n ls) ≤ x) × (x ≤ max m (greatest n ls))
    go ih (inl is) = wider (ih (at_head x n ls is))
    go ih (inr rest) = later ih (which x m ls rest)

-- the test in words

sizes : (area : Area) (image : List ℕ) → may_become_between area image ≡ true →
    (least (length area.bytes) area.lengths ≤ length image) × (length image ≤ greatest (length area.bytes) area.lengths)
sizes area image m = (leb-true _ _ (and_parts _ _ m).0, leb-true _ _ (and_parts _ _ (and_parts _ _ m).1).0)

alike : (area : Area) (image : List ℕ) → may_become_between area image ≡ true → agrees area 0 area.bytes image ≡ true
alike area image m = (and_parts _ _ (and_parts _ _ m).1).1

pub says_between : (area : Area) (image : List ℕ) → may_become_between area image ≡ true → PermitsBetween area image
says_between area image m = record {
  least = (least (length area.bytes) area.lengths, least_is_one (length area.bytes) area.lengths, (sizes area image m).0);
  greatest = (greatest (length area.bytes) area.lengths, greatest_is_one (length area.bytes) area.lengths, (sizes area image m).1);
  bytes = λ i l np. agrees_says area 0 area.bytes image (alike area image m) i i (omega arith) l np;
}

permits_between : (area : Area) (image : List ℕ) → PermitsBetween area image → may_become_between area image ≡ true
permits_between area image p =
    let low = in_between p.least.0 (length area.bytes) area.lengths p.least.1 in
    let high = in_between p.greatest.0 (length area.bytes) area.lengths p.greatest.1 in
    let a : least (length area.bytes) area.lengths ≤ length image = let b = low.0 in let c = p.least.2 in omega (arith, b, c) in
    let d : length image ≤ greatest (length area.bytes) area.lengths = let b = high.1 in let c = p.greatest.2 in omega (arith, b, c) in
    and_from _ _ (le-leb _ _ a)
    (and_from _ _ (le-leb _ _ d)
    (says_agrees area 0 area.bytes image (λ i j e l np. let same : j ≡ i = omega arith in p.bytes i l (rw same at np))))

pub test_between_says : (area : Area) (image : List ℕ) → (may_become_between area image ≡ true) ↔ PermitsBetween area image
test_between_says area image = (says_between area image, permits_between area image)

-- beside the model's test

becomes_between : (area : Area) (image : List ℕ) → may_become area image ≡ true → may_become_between area image ≡ true
becomes_between area image m =
    let p = says area image m in
    permits_between area image (record { least = (length image, p.size, omega arith); greatest = (length image, p.size, omega arith); bytes = p.bytes })

pub only_lengths_are_more : (area : Area) (image : List ℕ) → may_become_between area image ≡ true → is_one_of (length image) (length area.bytes ∷ area.lengths) ≡ true →
    may_become area image ≡ true
only_lengths_are_more area image m size = permits area image (record { size = size; bytes = (says_between area image m).bytes })

-- What the laws need: a test that permits what a read gives, no more than the one with lengths between, and no less after a write or a
-- cut than before it.
pub record IsCrash (crash : Crash) : Type 0 where
  pub reads : (area : Area) → crash area area.bytes ≡ true
  pub within : (area : Area) (image : List ℕ) → crash area image ≡ true → may_become_between area image ≡ true
  pub write_adds : (at : ℕ) (bytes : List ℕ) (area : Area) (image : List ℕ) → crash area image ≡ true → crash (written at bytes area) image ≡ true
  pub cut_adds : (len : ℕ) (area : Area) (image : List ℕ) → crash area image ≡ true → crash (cut len area) image ≡ true

-- with nothing pending it permits what a read gives alone
agrees_settled : (full : List ℕ) (i : ℕ) (xs ys : List ℕ) → length ys ≡ length xs → i + length ys ≤ length full → agrees (settled full) i xs ys ≡ true → ys ≡ xs
agrees_settled full i [] [] l h a = refl
agrees_settled full i (x ∷ xs) [] l h a = absurd (omega arith)
agrees_settled full i [] (y ∷ ys) l h a = absurd (omega arith)
agrees_settled full i (x ∷ xs) (y ∷ ys) l h a =
    go (or_cases _ _ (and_parts _ _ a).0) (agrees_settled full (suc i) xs ys (omega arith) (omega arith) (and_parts _ _ a).1)
  where
    go : (nat_eq x y ≡ true) ⊎ (is_pending (settled full) i ≡ true) → ys ≡ xs → y ∷ ys ≡ x ∷ xs
    go (inl e) rest = let same : x ≡ y = eqb-true x y e in cc (same, rest)
    go (inr p) rest =
        elim (or_cases _ _ p) [
          | inl past ↦ let le : length full ≤ i = leb-true _ _ past in absurd (omega arith)
          | inr none ↦ absurd (false≢true none)
        ]

becomes_bytes : (bytes image : List ℕ) → may_become_between (settled bytes) image ≡ true → image ≡ bytes
becomes_bytes bytes image m =
    let size = sizes (settled bytes) image m in
    agrees_settled bytes 0 bytes image (omega (arith, size)) (omega (arith, size)) (alike (settled bytes) image m)

pub becomes_settled : (crash : Crash) → IsCrash crash → (area : Area) (image : List ℕ) → IsSettled area → crash area image ≡ true → image ≡ area.bytes
becomes_settled crash is area image s m =
    becomes_bytes area.bytes image (subst (λ (a : Area). may_become_between a image ≡ true) (settled_is area s) (is.within area image m))

-- the two tests are such

untouched_bytes : (old new : Area) (image : List ℕ) → Untouched old new → ((i : ℕ) → i < length image → is_pending old i ≡ false → slice_get image i ≡ slice_get old.bytes i) → (i : ℕ) →
    i < length image → is_pending new i ≡ false → slice_get image i ≡ slice_get new.bytes i
untouched_bytes old new image u h i l np = h i l (u.before i np) ∙ sym (u.same i np)

pub by_model : IsCrash may_become
by_model = record {
  reads = becomes_self;
  within = becomes_between;
  write_adds = λ at bytes area image m.
      let p = says area image m in
      permits (written at bytes area) image
      (record { size = or_right _ _ p.size; bytes = untouched_bytes area (written at bytes area) image (untouched_written at bytes area) p.bytes });
  cut_adds = λ len area image m.
      let p = says area image m in
      permits (cut len area) image (record { size = or_right _ _ p.size; bytes = untouched_bytes area (cut len area) image (untouched_cut len area) p.bytes });
}

more_lengths : (old new : Area) (image : List ℕ) → Untouched old new → new.lengths ≡ length old.bytes ∷ old.lengths → PermitsBetween old image → may_become_between new image ≡ true
more_lengths old new image u e p =
    permits_between new image
    (record {
      least = (p.least.0, rw e (or_right _ _ p.least.1), p.least.2);
      greatest = (p.greatest.0, rw e (or_right _ _ p.greatest.1), p.greatest.2);
      bytes = untouched_bytes old new image u p.bytes;
    })

pub by_between : IsCrash may_become_between
by_between = record {
  reads = λ area. becomes_between area area.bytes (becomes_self area);
  within = λ area image m. m;
  write_adds = λ at bytes area image m. more_lengths area (written at bytes area) image (untouched_written at bytes area) refl (says_between area image m);
  cut_adds = λ len area image m. more_lengths area (cut len area) image (untouched_cut len area) refl (says_between area image m);
}
