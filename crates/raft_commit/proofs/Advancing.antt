-- How far a leader may commit, from the greatest index that most nodes have down.
use Rattle.std.proofs.Common.{◌≡◌, ℕ, zero, suc, ◌+◌, ◌-◌, ◌<◌, ◌≤◌, max, Bool, true, false, ◌⊎◌, inl, inr, List, length, get_or, arith, cond, nat_lt, refl, sym, ap, ◌∙◌}
use Rattle.std.proofs.lemmas.Bool.{and_left, and_right, and_from, cases_lt, cond-true, cond-false, eq-eqb, le-ltb, lt-ltb, ne_eqb}
use Rattle.vst_base.specs.Logs.{term_at}
use Rattle.vst_base.specs.Elections.{is_majority, advance, holders, may_commit}
use Rattle.vst_base.specs.declared.entry.Entry.{Entry}
use Rattle.vst_base.proofs.LogTerms.{term_found}
use Rattle.raft_commit.proofs.Holding.{held_below}

step : {C : Type 0} (n me : ℕ) (m : ℕ → ℕ) (log : List (Entry C)) (term commit k : ℕ) → may_commit n me m log term commit (suc k) ≡ false
    → advance n me m log term commit (suc k) ≡ advance n me m log term commit k
step n me m log term commit k q = cond-false (may_commit n me m log term commit (suc k)) (suc k) (advance n me m log term commit k) q

-- few have those past an index
advance_from : {C : Type 0} (n me : ℕ) (m : ℕ → ℕ) (log : List (Entry C)) (term commit i d k : ℕ) → i + d ≡ k
    → ((j : ℕ) → i < j → j ≤ k → is_majority n (holders me m j) ≡ false) → advance n me m log term commit k ≡ advance n me m log term commit i
advance_from n me m log term commit i zero k e few = let same : k ≡ i = omega arith in ap (advance n me m log term commit) same
advance_from n me m log term commit i (suc d) zero e few = absurd (omega arith)
advance_from n me m log term commit i (suc d) (suc k) e few =
    step n me m log term commit k (and_right (nat_lt commit (suc k)) _ (and_right _ _ (few (suc k) (omega arith) (omega arith))))
    ∙ advance_from n me m log term commit i d k (omega arith) (λ j over under. few j over (omega arith))

-- the entry is of another term
advance_past : {C : Type 0} (n me : ℕ) (m : ℕ → ℕ) (log : List (Entry C)) (term commit k : ℕ) → 0 < k → (term_at log k ≡ term → ⊥)
    → advance n me m log term commit k ≡ advance n me m log term commit (k - 1)
advance_past n me m log term commit zero h other = absurd (omega arith)
advance_past n me m log term commit (suc k) h other =
    let same : k ≡ suc k - 1 = omega arith in
    step n me m log term commit k (and_right (nat_lt commit (suc k)) _ (and_left _ _ (ne_eqb _ _ other))) ∙ ap (advance n me m log term commit) same

-- none is past the commit
advance_none : {C : Type 0} (n me : ℕ) (m : ℕ → ℕ) (log : List (Entry C)) (term commit k : ℕ) → k ≤ commit → advance n me m log term commit k ≡ commit
advance_none n me m log term commit zero h = refl
advance_none n me m log term commit (suc k) h =
    step n me m log term commit k (and_left _ _ (le-ltb commit (suc k) h)) ∙ advance_none n me m log term commit k (omega arith)

-- this is the greatest
advance_at : {C : Type 0} (n me : ℕ) (m : ℕ → ℕ) (log : List (Entry C)) (term commit k : ℕ) → commit < k → term_at log k ≡ term
    → is_majority n (holders me m k) ≡ true → advance n me m log term commit k ≡ k
advance_at n me m log term commit zero h own held = absurd (omega arith)
advance_at n me m log term commit (suc k) h own held =
    cond-true _ (suc k) (advance n me m log term commit k) (and_from _ _ (lt-ltb commit (suc k) h) (and_from _ _ (eq-eqb _ _ own) held))

-- the term of the entry at an index from 1 on
term_of : {C : Type 0} (log : List (Entry C)) (index : ℕ) (e : Entry C) → 0 < index → index ≤ length log → e ≡ get_or log (index - 1) e
    → term_at log index ≡ e.term
term_of log index e h l q = let same : index ≡ suc (index - 1) = omega arith in ap (term_at log) same ∙ term_found log (index - 1) e (omega arith) q

-- none past the index may be committed, and most nodes have the log up to it
pub record Falling {C : Type 0} (n me : ℕ) (m : ℕ → ℕ) (log : List (Entry C)) (term commit index : ℕ) : Type 0 where
  pub in_the_log : index ≤ length log
  pub held : is_majority n (holders me m index) ≡ true
  pub none_past : advance n me m log term commit (length log) ≡ advance n me m log term commit index

pub starts : {C : Type 0} (n me : ℕ) (m : ℕ → ℕ) (log : List (Entry C)) (term commit index : ℕ) → index ≤ length log
    → is_majority n (holders me m index) ≡ true → ((j : ℕ) → index < j → j ≤ length log → is_majority n (holders me m j) ≡ false)
    → Falling n me m log term commit index
starts n me m log term commit index h held few = record {
  in_the_log = h;
  held = held;
  none_past = advance_from n me m log term commit index (length log - index) (length log) (omega arith) few;
}

-- the entry there is of another term
pub falls : {C : Type 0} (n me : ℕ) (m : ℕ → ℕ) (log : List (Entry C)) (term commit index t : ℕ) (e : Entry C) → commit < index
    → e ≡ get_or log (index - 1) e → t ≡ e.term → (t ≡ term → ⊥) → Falling n me m log term commit index → Falling n me m log term commit (index - 1)
falls n me m log term commit index t e h is told other f = record {
  in_the_log = let l = f.in_the_log in omega arith;
  held = held_below n me m (index - 1) index (omega arith) f.held;
  none_past =
      f.none_past ∙ advance_past n me m log term commit index (omega arith) (λ q. other (told ∙ (sym (term_of log index e (omega arith) f.in_the_log is) ∙ q)));
}

-- the entry there is of the leader's term
pub ends : {C : Type 0} (n me : ℕ) (m : ℕ → ℕ) (log : List (Entry C)) (term commit index t r : ℕ) (e : Entry C) → commit < index
    → e ≡ get_or log (index - 1) e → t ≡ e.term → t ≡ term → r ≡ max index commit → Falling n me m log term commit index
    → r ≡ advance n me m log term commit (length log)
ends n me m log term commit index t r e h is told own q f =
    let there : term_at log index ≡ term = term_of log index e (omega arith) f.in_the_log is ∙ (sym told ∙ own) in
    let here : r ≡ index = omega arith in
    here ∙ sym (f.none_past ∙ advance_at n me m log term commit index h there f.held)

-- the index is the commit or before it
pub ends_back : {C : Type 0} (n me : ℕ) (m : ℕ → ℕ) (log : List (Entry C)) (term commit index r : ℕ) → index ≤ commit → r ≡ max index commit
    → Falling n me m log term commit index → r ≡ advance n me m log term commit (length log)
ends_back n me m log term commit index r h q f =
    let here : r ≡ commit = omega arith in
    here ∙ sym (f.none_past ∙ advance_none n me m log term commit index h)

-- it may commit that far
pub advance_is_allowed : {C : Type 0} (n me : ℕ) (m : ℕ → ℕ) (log : List (Entry C)) (term commit k r : ℕ) → r ≡ advance n me m log term commit k → commit < r
    → may_commit n me m log term commit r ≡ true
advance_is_allowed n me m log term commit zero r q h = absurd (omega arith)
advance_is_allowed n me m log term commit (suc k) r q h =
    go (may_commit n me m log term commit (suc k)) refl q (λ q'. advance_is_allowed n me m log term commit k r q' h)
  where
    go : (b : Bool) → may_commit n me m log term commit (suc k) ≡ b → r ≡ cond b (suc k) (advance n me m log term commit k)
        → (r ≡ advance n me m log term commit k → may_commit n me m log term commit r ≡ true) → may_commit n me m log term commit r ≡ true
    go true may q rest = ap (may_commit n me m log term commit) q ∙ may
    go false may q rest = rest q

-- and no further
pub advance_is_greatest : {C : Type 0} (n me : ℕ) (m : ℕ → ℕ) (log : List (Entry C)) (term commit k r : ℕ) → r ≡ advance n me m log term commit k
    → (j : ℕ) → r < j → j ≤ k → may_commit n me m log term commit j ≡ false
advance_is_greatest n me m log term commit zero r q j over under = absurd (omega arith)
advance_is_greatest n me m log term commit (suc k) r q j over under =
    go (may_commit n me m log term commit (suc k)) refl (cases_lt j (suc k)) q (λ q'. advance_is_greatest n me m log term commit k r q' j over)
  where
    go : (b : Bool) → may_commit n me m log term commit (suc k) ≡ b → (j < suc k) ⊎ (suc k ≤ j) → r ≡ cond b (suc k) (advance n me m log term commit k)
        → (r ≡ advance n me m log term commit k → j ≤ k → may_commit n me m log term commit j ≡ false) → may_commit n me m log term commit j ≡ false
    go true may which q rest = absurd (omega arith)
    go false may (inl l) q rest = rest q (omega arith)
    go false may (inr l) q rest = let same : j ≡ suc k = omega arith in ap (may_commit n me m log term commit) same ∙ may
