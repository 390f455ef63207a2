-- Which indexes most nodes have, by the index up to which each has the leader's log.
use Rattle.std.proofs.Common.{◌≡◌, ℕ, zero, suc, ◌+◌, ◌-◌, ◌*◌, ◌<◌, ◌≤◌, max, Bool, true, false, ◌⊎◌, inl, inr, List, length, get_or, ap, arith, cond, eqb, leb, nat_lt, refl, sym, subst, ◌∙◌}
use Rattle.std.proofs.lemmas.Bool.{both_ways, cases_lt, leb-true, leb-false, lt-ltb, ltb-true, le-leb}
use Rattle.std.proofs.lemmas.List.{get_or-map}
use Rattle.vst_base.specs.Elections.{count, is_majority, holders}
use Rattle.raft_commit.specs.Peers.{PeerView, matched_of}

-- index 0 is before the first entry
all_hold_none : (n me : ℕ) (m : ℕ → ℕ) → count (holders me m 0) n ≡ n
all_hold_none zero me m = refl
all_hold_none (suc n) me m = rw (le-leb 0 (m n) (omega arith)) (go (eqb n me) (all_hold_none n me m))
  where
    go : (b : Bool) → count (holders me m 0) n ≡ n → cond (cond b true true) (suc (count (holders me m 0) n)) (count (holders me m 0) n) ≡ suc n
    go true e = ap suc e
    go false e = ap suc e

pub none_is_held : (n me : ℕ) (m : ℕ → ℕ) → me < n → is_majority n (holders me m 0) ≡ true
none_is_held n me m h = lt-ltb n (2 * count (holders me m 0) n) (let e = all_hold_none n me m in omega arith)

-- who has more has less too
fewer_hold : (n me : ℕ) (m : ℕ → ℕ) (j k : ℕ) → j ≤ k → count (holders me m k) n ≤ count (holders me m j) n
fewer_hold zero me m j k h = omega arith
fewer_hold (suc n) me m j k h = go (eqb n me) (leb k (m n)) (leb j (m n)) refl refl (fewer_hold n me m j k h)
  where
    go : (b c d : Bool) → leb k (m n) ≡ c → leb j (m n) ≡ d → count (holders me m k) n ≤ count (holders me m j) n →
        cond (cond b true c) (suc (count (holders me m k) n)) (count (holders me m k) n)
        ≤ cond (cond b true d) (suc (count (holders me m j) n)) (count (holders me m j) n)
    go true c d p q l = omega arith
    go false true true p q l = omega arith
    go false true false p q l = absurd (let a = leb-true _ _ p in let b = leb-false _ _ q in omega arith)
    go false false true p q l = omega arith
    go false false false p q l = omega arith

pub held_below : (n me : ℕ) (m : ℕ → ℕ) (j k : ℕ) → j ≤ k → is_majority n (holders me m k) ≡ true → is_majority n (holders me m j) ≡ true
held_below n me m j k h p = lt-ltb n (2 * count (holders me m j) n) (let a = ltb-true n (2 * count (holders me m k) n) p in let b = fewer_hold n me m j k h in omega arith)

-- as many have an index as have the next, or one has its log up to there
same_or_there : (n me : ℕ) (m : ℕ → ℕ) (k : ℕ) → (count (holders me m k) n ≡ count (holders me m (suc k)) n) ⊎ ((j : ℕ) × (j < n) × (m j ≡ k))
same_or_there zero me m k = inl refl
same_or_there (suc n) me m k = go (eqb n me) (leb k (m n)) (leb (suc k) (m n)) refl refl (same_or_there n me m k)
  where
    go : (b c d : Bool) → leb k (m n) ≡ c → leb (suc k) (m n) ≡ d → (count (holders me m k) n ≡ count (holders me m (suc k)) n) ⊎ ((j : ℕ) × (j < n) × (m j ≡ k)) →
        (cond (cond b true c) (suc (count (holders me m k) n)) (count (holders me m k) n)
        ≡ cond (cond b true d) (suc (count (holders me m (suc k)) n)) (count (holders me m (suc k)) n)) ⊎ ((j : ℕ) × (j < suc n) × (m j ≡ k))
    go b c d p q (inr there) = inr (there.0, omega (arith, there.1), there.2)
    go true c d p q (inl same) = inl (ap suc same)
    go false true true p q (inl same) = inl (ap suc same)
    go false true false p q (inl same) = inr (n, omega arith, let a = leb-true _ _ p in let b = leb-false _ _ q in omega arith)
    go false false true p q (inl same) = absurd (let a = leb-false _ _ p in let b = leb-true _ _ q in omega arith)
    go false false false p q (inl same) = inl same

-- the greatest index that most nodes have, of 0 and those that the first so many nodes tell, where few have the last
pub record Best (n me : ℕ) (m : ℕ → ℕ) (last asked most : ℕ) : Type 0 where
  pub is_held : is_majority n (holders me m most) ≡ true
  pub in_the_log : most ≤ last
  pub greatest : (j : ℕ) → j < asked → most < m j → is_majority n (holders me m (m j)) ≡ false

pub best_of_none : (n me : ℕ) (m : ℕ → ℕ) (last : ℕ) → me < n → Best n me m last 0 0
best_of_none n me m last h = record { is_held = none_is_held n me m h; in_the_log = omega arith; greatest = λ j below. absurd (omega arith) }

pub best_with : (n me : ℕ) (m : ℕ → ℕ) (last i most index r : ℕ) → is_majority n (holders me m last) ≡ false → m i ≡ index
    → is_majority n (holders me m index) ≡ true → r ≡ max most index → Best n me m last i most → Best n me m last (i + 1) r
best_with n me m last i most index r few told held q b = record {
  is_held = go (cases_lt most index);
  in_the_log = within (cases_lt last index);
  greatest = λ j below over. earlier j (cases_lt j i) below over;
}
  where
    go : (most < index) ⊎ (index ≤ most) → is_majority n (holders me m r) ≡ true
    go (inl l) = let same : index ≡ r = omega arith in subst (λ (k : ℕ). is_majority n (holders me m k) ≡ true) same held
    go (inr l) = let same : most ≡ r = omega arith in subst (λ (k : ℕ). is_majority n (holders me m k) ≡ true) same b.is_held

    within : (last < index) ⊎ (index ≤ last) → r ≤ last
    within (inl l) = absurd (both_ways _ few (held_below n me m last index (omega arith) held))
    within (inr l) = omega (arith, b.in_the_log)

    earlier : (j : ℕ) → (j < i) ⊎ (i ≤ j) → j < i + 1 → r < m j → is_majority n (holders me m (m j)) ≡ false
    earlier j (inl l) below over = b.greatest j l (omega arith)
    earlier j (inr l) below over = absurd (let same : i ≡ j = omega arith in let p : m i ≡ m j = ap m same in omega arith)

pub best_without : (n me : ℕ) (m : ℕ → ℕ) (last i most index r : ℕ) → m i ≡ index → is_majority n (holders me m index) ≡ false → r ≡ most
    → Best n me m last i most → Best n me m last (i + 1) r
best_without n me m last i most index r told few q b = record {
  is_held = subst (λ (k : ℕ). is_majority n (holders me m k) ≡ true) (sym q) b.is_held;
  in_the_log = omega (arith, b.in_the_log);
  greatest = λ j below over. earlier j (cases_lt j i) below over;
}
  where
    earlier : (j : ℕ) → (j < i) ⊎ (i ≤ j) → j < i + 1 → r < m j → is_majority n (holders me m (m j)) ≡ false
    earlier j (inl l) below over = b.greatest j l (omega arith)
    earlier j (inr l) below over =
        let same : i ≡ j = omega arith in
        let there : index ≡ m j = sym told ∙ ap m same in
        subst (λ (k : ℕ). is_majority n (holders me m k) ≡ false) there few

-- past the best of all, few have any
none_past : (n me : ℕ) (m : ℕ → ℕ) (last asked most : ℕ) → is_majority n (holders me m last) ≡ false → n ≤ asked → Best n me m last asked most
    → (d k : ℕ) → k + d ≡ last → most < k → is_majority n (holders me m k) ≡ false
none_past n me m last asked most few all b zero k e h = let same : last ≡ k = omega arith in subst (λ (i : ℕ). is_majority n (holders me m i) ≡ false) same few
none_past n me m last asked most few all b (suc d) k e h = go (same_or_there n me m k) (none_past n me m last asked most few all b d (suc k) (omega arith) (omega arith))
  where
    go : (count (holders me m k) n ≡ count (holders me m (suc k)) n) ⊎ ((j : ℕ) × (j < n) × (m j ≡ k)) → is_majority n (holders me m (suc k)) ≡ false
        → is_majority n (holders me m k) ≡ false
    go (inl same) next = ap (λ c. nat_lt n (2 * c)) same ∙ next
    go (inr there) next =
        let q : m there.0 ≡ k = there.2 in
        subst (λ (i : ℕ). is_majority n (holders me m i) ≡ false) q (b.greatest there.0 (omega (arith, there.1)) (omega arith))

pub few_past : (n me : ℕ) (m : ℕ → ℕ) (last asked most : ℕ) → is_majority n (holders me m last) ≡ false → n ≤ asked → Best n me m last asked most
    → (k : ℕ) → most < k → k ≤ last → is_majority n (holders me m k) ≡ false
few_past n me m last asked most few all b k h l = none_past n me m last asked most few all b (last - k) k (omega arith) h

-- what the list of peers tells of one
pub told_at : (peers : List PeerView) (i : ℕ) (p : PeerView) (index : ℕ) → i < length peers → p ≡ get_or peers i p → index ≡ p.matched → matched_of peers i ≡ index
told_at peers i p index h is q = get_or-map (λ (x : PeerView). x.matched) peers i p 0 h ∙ (ap (λ (x : PeerView). x.matched) (sym is) ∙ sym q)
