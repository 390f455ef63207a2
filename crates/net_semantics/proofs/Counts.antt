-- How many packets have a copy in flight, as they change and as they are shown.
use Rattle.std.proofs.Common.{◌≡◌, ℕ, zero, suc, ◌+◌, ◌<◌, ◌≤◌, List, [], ◌∷◌, ◌++◌, get_or, set, cond, true, refl, ap, subst, arith}
use Rattle.std.specs.Prelude.{nat_lt, count_by, slice_get}
use Rattle.std.proofs.lemmas.Bool.{lt-ltb}
use Rattle.std.proofs.lemmas.List.Sums.{sum_by-cons, sum_by_push, sum_by-set}
use Rattle.net_semantics.specs.Worlds.{Packet, change_at}
use Rattle.net_semantics.specs.Shown.{Shown}
use Rattle.net_semantics.specs.Held.{held_count, held_copies, held_less, held_more}
use Rattle.net_semantics.proofs.Places.{set-change_at}
use Rattle.net_semantics.proofs.Showing.{ShowsAll, kept_within}

-- what a packet with so many copies adds
abbrev one : ℕ → ℕ
one copies = cond (nat_lt 0 copies) 1 0

one_of_some : (n : ℕ) → 0 < n → one n ≡ 1
one_of_some n h = let t : nat_lt 0 n ≡ true = lt-ltb 0 n h in rw t refl

pub count_shown : {M : Type 0} (ps : List (Shown M)) (qs : List (Packet M)) → ShowsAll ps qs → held_count ps ≡ count_by (λ q. nat_lt 0 q.copies) qs
count_shown [] [] h = refl
count_shown [] (q ∷ qs) h = absurd (h 0)
count_shown (p ∷ ps) [] h = absurd (h 0)
count_shown (p ∷ ps) (q ∷ qs) h =
    let first : one p.copies ≡ one q.copies = ap one (h 0).copies in
    let rest = count_shown ps qs (λ k. h (suc k)) in
    let left = sum_by-cons (λ r. one r.copies) p ps in
    let right = sum_by-cons (λ r. one r.copies) q qs in
    omega (arith, first, rest, left, right)

-- one more packet, which has a copy
pub count_one_more : {M : Type 0} (ps : List (Shown M)) (p : Shown M) → 0 < p.copies → held_count (ps ++ p ∷ []) ≡ held_count ps + 1
count_one_more ps p h = let now = one_of_some p.copies h in let all = sum_by_push (λ r. one r.copies) ps p in omega (arith, now, all)

pub copies_there : {M : Type 0} (ps : List (Shown M)) (k : ℕ) (d : Shown M) → 0 < held_copies (slice_get ps k) → held_copies (slice_get ps k) ≡ (get_or ps k d).copies
copies_there [] k d h = absurd (omega arith)
copies_there (p ∷ ps) zero d h = refl
copies_there (p ∷ ps) (suc k) d h = copies_there ps k d h

pub counted : {M : Type 0} (ps : List (Shown M)) (k : ℕ) → 0 < held_copies (slice_get ps k) → 1 ≤ held_count ps
counted [] k h = absurd (omega arith)
counted (p ∷ ps) zero h = let first = one_of_some p.copies h in let all = sum_by-cons (λ r. one r.copies) p ps in omega (arith, first, all)
counted (p ∷ ps) (suc k) h = let rest = counted ps k h in let all = sum_by-cons (λ r. one r.copies) p ps in omega (arith, rest, all)

-- another packet in the place of one that has a copy
module _ {M : Type 0} (ps : List (Shown M)) (k : ℕ) (d p : Shown M) (copy : 0 < held_copies (slice_get ps k)) where
  count_set : held_count (set ps k p) + 1 ≡ held_count ps + one p.copies
  count_set =
      let had : one (get_or ps k d).copies ≡ 1 = one_of_some (get_or ps k d).copies (subst (λ n. 0 < n) (copies_there ps k d copy) copy) in
      let changed = sum_by-set (λ r. one r.copies) ps k p d (kept_within ps k copy) in
      omega (arith, had, changed)

  pub count_some : 0 < p.copies → held_count ps ≡ held_count (set ps k p)
  count_some h = let now = one_of_some p.copies h in omega (arith, count_set, now)

  pub count_none : p.copies ≡ 0 → held_count ps ≡ held_count (set ps k p) + 1
  count_none e = let now : one p.copies ≡ 0 = ap one e in omega (arith, count_set, now)

  pub set_less : p ≡ held_less (get_or ps k d) → set ps k p ≡ change_at held_less k ps
  set_less e = set-change_at held_less ps k d p (kept_within ps k copy) e

  pub set_more : p ≡ held_more (get_or ps k d) → set ps k p ≡ change_at held_more k ps
  set_more e = set-change_at held_more ps k d p (kept_within ps k copy) e
