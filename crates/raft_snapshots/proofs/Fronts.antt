-- A whole log, from the entries that are gone and those that a node has.
use Rattle.std.proofs.Common.{◌≡◌, ◌≢◌, ℕ, ◌+◌, zero, suc, ◌-◌, ◌<◌, ◌≤◌, true, false, ◌&&◌, List, [], ◌∷◌, ◌++◌, length, take, drop, eqb, leb, cond, refl, ap, ◌∙◌, arith, append_assoc, length-append, inl, inr, ◌⊎◌}
use Rattle.std.proofs.lemmas.Bool.{and_from, and_parts, le-leb, leb-true}
use Rattle.std.proofs.lemmas.Bool.Decides.{eqb_tells}
use Rattle.std.proofs.Math.Seq.{drop-append-add, take-append-add}
use Rattle.std.proofs.lemmas.List.{take-append-drop}
use Rattle.vst_base.specs.declared.entry.Entry.{Entry}
use Rattle.vst_base.specs.Logs as list
use Rattle.vst_base.proofs.LogTerms.{term_at_zero}
use Rattle.raft_snapshots.specs.Logs.{LogView, accepted, last_index, last_term, matches, shortened, term_at}

pub drop_past : {A : Type 0} (front es : List A) (k : ℕ) → length front ≤ k → drop k (front ++ es) ≡ drop (k - length front) es
drop_past front es k h =
    let e : k ≡ length front + (k - length front) = omega (arith, h) in
    ap (λ j. drop j (front ++ es)) e ∙ drop-append-add front es (k - length front)

pub take_past : {A : Type 0} (front es : List A) (k : ℕ) → length front ≤ k → take k (front ++ es) ≡ front ++ take (k - length front) es
take_past front es k h =
    let e : k ≡ length front + (k - length front) = omega (arith, h) in
    ap (λ j. take j (front ++ es)) e ∙ take-append-add front es (k - length front)

-- the term at an index after the front
pub term_behind : {C : Type 0} (front es : List (Entry C)) (n : ℕ) → length front < n → list.term_at (front ++ es) n ≡ list.term_at es (n - length front)
term_behind {C = C} [] es n h = let e : n - 0 ≡ n = omega arith in rw e refl
term_behind (x ∷ xs) es zero h = absurd (omega arith)
term_behind (x ∷ xs) es (suc zero) h = absurd (omega arith)
term_behind (x ∷ xs) es (suc (suc n)) h =
    let e : suc (suc n) - suc (length xs) ≡ suc n - length xs = omega arith in
    rw e (term_behind xs es (suc n) (omega arith))

-- the term at its end
pub term_at_end : {C : Type 0} (front es : List (Entry C)) → list.term_at (front ++ es) (length front) ≡ list.last_term front
term_at_end [] es = term_at_zero es
term_at_end (x ∷ []) es = refl
term_at_end (x ∷ (y ∷ xs)) es = term_at_end (y ∷ xs) es

-- the entries that are gone, as the log has noted them
pub record IsGone {C : Type 0} (front : List (Entry C)) (log : LogView C) : Type 0 where
  pub gone : length front ≡ log.base
  pub gone_term : list.last_term front ≡ log.base_term

module _ {C : Type 0} (front : List (Entry C)) (log : LogView C) (g : IsGone front log) where
  pub whole_length : length (front ++ log.entries) ≡ last_index log
  whole_length = omega (arith, length-append front log.entries, g.gone)

  pub whole_term : (n : ℕ) → log.base ≤ n → list.term_at (front ++ log.entries) n ≡ term_at log n
  whole_term n h = go (eqb_tells n log.base)
    where
      go : ((eqb n log.base ≡ true) × (n ≡ log.base)) ⊎ ((eqb n log.base ≡ false) × (n ≢ log.base)) →
          list.term_at (front ++ log.entries) n ≡ cond (eqb n log.base) log.base_term (list.term_at log.entries (n - log.base))
      go (inl t) =
          let e : n ≡ length front = omega (arith, t.1, g.gone) in
          rw (t.0) (ap (list.term_at (front ++ log.entries)) e ∙ (term_at_end front log.entries ∙ g.gone_term))
      go (inr t) =
          let less : length front < n = omega (arith, t.1, g.gone) in
          rw (t.0, ← g.gone) (term_behind front log.entries n less)

  pub whole_last : list.last_term (front ++ log.entries) ≡ last_term log
  whole_last = rw whole_length (whole_term (last_index log) (omega arith))

  pub whole_matches : (prev prev_t : ℕ) → matches log prev prev_t ≡ true → list.matches (front ++ log.entries) prev prev_t ≡ true
  whole_matches prev prev_t e =
      let p = and_parts (leb log.base prev && leb prev (last_index log)) (eqb (term_at log prev) prev_t) e in
      let q = and_parts (leb log.base prev) (leb prev (last_index log)) p.0 in
      let le : log.base ≤ prev = leb-true _ _ q.0 in
      and_from (leb prev (length (front ++ log.entries))) (eqb (list.term_at (front ++ log.entries) prev) prev_t) (rw whole_length q.1) (rw (whole_term prev le) p.1)

  pub whole_matches_is : (prev prev_t : ℕ) → log.base ≤ prev → list.matches (front ++ log.entries) prev prev_t ≡ matches log prev prev_t
  whole_matches_is prev prev_t le = rw (le-leb log.base prev le, whole_length, whole_term prev le) refl

  pub whole_drop : (k : ℕ) → log.base ≤ k → drop k (front ++ log.entries) ≡ drop (k - log.base) log.entries
  whole_drop k h = rw (← g.gone) (drop_past front log.entries k (omega (arith, g.gone)))

  pub whole_take : (k : ℕ) → log.base ≤ k → take k (front ++ log.entries) ≡ front ++ take (k - log.base) log.entries
  whole_take k h = rw (← g.gone) (take_past front log.entries k (omega (arith, g.gone)))

  pub whole_accepted : (prev : ℕ) (es : List (Entry C)) → log.base ≤ prev →
      list.accepted (front ++ log.entries) prev es ≡ front ++ (accepted log prev es).entries
  whole_accepted prev es h =
      rw (whole_take prev h, whole_drop prev h) (append_assoc front (take (prev - log.base) log.entries) (list.merged (drop (prev - log.base) log.entries) es))

  -- the front of the whole log up to an index that the log has
  pub whole_short : (n : ℕ) → log.base ≤ n → take n (front ++ log.entries) ++ (shortened log n).entries ≡ front ++ log.entries
  whole_short n h = rw (← whole_drop n h) (take-append-drop n (front ++ log.entries))
