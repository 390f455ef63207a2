-- How many terms two logs have in common.
use Rattle.std.proofs.Common.{◌≡◌, ℕ, zero, suc, ◌+◌, ◌≤◌, Bool, true, false, nat_eq, List, [], ◌∷◌, length, drop, refl, arith, if◌then◌else◌}
use Rattle.vst_base.specs.Entries.{EntryView}
use Rattle.node_acts.specs.Stores.{common}

pub common_with_none : {C : Type 0} (ts : List ℕ) (es : List (EntryView C)) → length ts ≤ 0 → common ts es ≡ 0
common_with_none [] es h = refl
common_with_none (t ∷ ts) es h = absurd (omega arith)

pub common_with_no_entries : {C : Type 0} (ts : List ℕ) (es : List (EntryView C)) → length es ≤ 0 → common ts es ≡ 0
common_with_no_entries [] es h = refl
common_with_no_entries (t ∷ ts) [] h = refl
common_with_no_entries (t ∷ ts) (e ∷ es) h = absurd (omega arith)

pub common_few : {C : Type 0} (ts : List ℕ) (es : List (EntryView C)) (n : ℕ) → n ≤ common ts es → (n ≤ length ts) × (n ≤ length es)
common_few [] es n h = (omega (arith, h), omega (arith, h))
common_few (t ∷ ts) [] n h = (omega (arith, h), omega (arith, h))
common_few (t ∷ ts) (e ∷ es) zero h = (omega arith, omega arith)
common_few (t ∷ ts) (e ∷ es) (suc n) h = by (nat_eq t e.term) h (λ k. common_few ts es n k)
  where
    by : (b : Bool) → suc n ≤ (if b then suc (common ts es) else 0) → (n ≤ common ts es → (n ≤ length ts) × (n ≤ length es)) → (suc n ≤ suc (length ts)) × (suc n ≤ suc (length es))
    by true k rest = let r = rest (omega (arith, k)) in (omega (arith, r.0), omega (arith, r.1))
    by false k rest = absurd (omega (arith, k))

pub common_from : {C : Type 0} (ts : List ℕ) (es : List (EntryView C)) (n : ℕ) → n ≤ common ts es → common ts es ≡ n + common (drop n ts) (drop n es)
common_from ts es zero h = let none : common ts es ≡ 0 + common ts es = omega arith in none
common_from [] es (suc n) h = absurd (omega (arith, h))
common_from (t ∷ ts) [] (suc n) h = absurd (omega (arith, h))
common_from (t ∷ ts) (e ∷ es) (suc n) h = by (nat_eq t e.term) h (λ k. common_from ts es n k)
  where
    by : (b : Bool) → suc n ≤ (if b then suc (common ts es) else 0) → (n ≤ common ts es → common ts es ≡ n + common (drop n ts) (drop n es)) →
        (if b then suc (common ts es) else 0) ≡ suc n + common (drop n ts) (drop n es)
    by true k rest = let r = rest (omega (arith, k)) in omega (arith, r)
    by false k rest = absurd (omega (arith, k))
