-- How long a log is that took entries, and how far a leader's commit goes.
use Rattle.std.proofs.Common.{◌≡◌, ℕ, zero, suc, ◌+◌, ◌≤◌, max, Bool, true, false, not, ◌&&◌, ◌||◌, List, [], ◌∷◌, length, take, drop, refl, sym, ap, ◌∙◌, arith, eqb, cond, leb, length-append, length-drop}
use Rattle.std.proofs.lemmas.List.{length-take-le}
use Rattle.std.proofs.lemmas.Bool.{and_parts, ltb-true, false≢true, le-leb}
use Rattle.vst_base.specs.declared.entry.Entry.{Entry}
use Rattle.vst_base.specs.Elections.{advance, may_commit}
use Rattle.vst_base.specs.Logs.{accepted, has_conflict, merged, term_at}
use Rattle.vst_base.proofs.LogTerms.{rest_behind, term_behind}

merged_no_shorter : {C : Type 0} (old es : List (Entry C)) → length es ≤ length (merged old es)
merged_no_shorter old [] = omega arith
merged_no_shorter [] (e ∷ es) = omega arith
merged_no_shorter (o ∷ os) (e ∷ es) = go (eqb o.term e.term) (merged_no_shorter os es)
  where
    go : (b : Bool) → length es ≤ length (merged os es) → suc (length es) ≤ length (cond b (o ∷ merged os es) (e ∷ es))
    go true h = omega arith
    go false h = omega arith

merged_no_longer : {C : Type 0} (old es : List (Entry C)) → length (merged old es) ≤ max (length old) (length es)
merged_no_longer old [] = omega arith
merged_no_longer [] (e ∷ es) = omega arith
merged_no_longer (o ∷ os) (e ∷ es) = go (eqb o.term e.term) (merged_no_longer os es)
  where
    go : (b : Bool) → length (merged os es) ≤ max (length os) (length es) → length (cond b (o ∷ merged os es) (e ∷ es)) ≤ max (suc (length os)) (suc (length es))
    go true h = omega arith
    go false h = omega arith

length_accepted : {C : Type 0} (log : List (Entry C)) (prev : ℕ) (es : List (Entry C)) → prev ≤ length log → length (accepted log prev es) ≡ prev + length (merged (drop prev log) es)
length_accepted log prev es h = omega (arith, length-append (take prev log) (merged (drop prev log) es), length-take-le prev log h)

pub accepted_has_new : {C : Type 0} (log : List (Entry C)) (prev : ℕ) (es : List (Entry C)) → prev ≤ length log → prev + length es ≤ length (accepted log prev es)
accepted_has_new log prev es h = omega (arith, length_accepted log prev es h, merged_no_shorter (drop prev log) es)

pub accepted_no_longer : {C : Type 0} (log : List (Entry C)) (prev : ℕ) (es : List (Entry C)) → prev ≤ length log → length (accepted log prev es) ≤ max (length log) (prev + length es)
accepted_no_longer log prev es h = omega (arith, length_accepted log prev es h, merged_no_longer (drop prev log) es, length-drop prev log)

or_neither : (a b : Bool) → (a || b) ≡ false → (a ≡ false) × (b ≡ false)
or_neither true b e = absurd (false≢true (sym e))
or_neither false b e = (refl, e)

-- where no entry conflicts with one up to commit, none up to it is cut
kept_behind : {C : Type 0} (log : List (Entry C)) (commit prev : ℕ) (rest es : List (Entry C)) → commit ≤ length log → prev ≤ length log → drop prev log ≡ rest →
    has_conflict log commit prev es ≡ false → commit ≤ prev + length (merged rest es)
kept_behind log commit prev rest [] l p d n = omega (arith, ap length d, length-drop prev log)
kept_behind log commit prev [] (e ∷ es) l p d n = omega (arith, ap length d, length-drop prev log)
kept_behind log commit prev (o ∷ os) (e ∷ es) l p d n =
    let parts = or_neither (leb (suc prev) commit && not (eqb (term_at log (suc prev)) e.term)) (has_conflict log commit (suc prev) es) n in
    go (eqb o.term e.term) refl (rw (term_behind log prev o os d) at parts.0) (kept_behind log commit (suc prev) os es l (omega (arith, ap length d, length-drop prev log)) (rest_behind log prev o os d) parts.1)
  where
    past : (b : Bool) → leb (suc prev) commit ≡ b → (b && true) ≡ false → commit ≤ prev
    past true t e = absurd (false≢true (sym e))
    past false t e = omega (arith, below)
      where
        below : suc prev ≤ commit → ⊥
        below h = false≢true (sym t ∙ le-leb (suc prev) commit h)

    go : (b : Bool) → eqb o.term e.term ≡ b → (leb (suc prev) commit && not (eqb o.term e.term)) ≡ false → commit ≤ suc prev + length (merged os es) →
        commit ≤ prev + length (cond b (o ∷ merged os es) (e ∷ es))
    go true t n h = omega arith
    go false t n h = let k = past (leb (suc prev) commit) refl (rw t at n) in omega arith

pub committed_stay : {C : Type 0} (log : List (Entry C)) (commit prev : ℕ) (es : List (Entry C)) → commit ≤ length log → prev ≤ length log →
    has_conflict log commit prev es ≡ false → commit ≤ length (accepted log prev es)
committed_stay log commit prev es l p n = omega (arith, length_accepted log prev es p, kept_behind log commit prev (drop prev log) es l p refl n)

-- the greatest index that may be committed is never below commit, nor past the log where commit is not
pub commits_no_less : {C : Type 0} (nodes me : ℕ) (matched : ℕ → ℕ) (log : List (Entry C)) (term commit k : ℕ) → commit ≤ advance nodes me matched log term commit k
commits_no_less nodes me matched log term commit zero = omega arith
commits_no_less nodes me matched log term commit (suc k) = go (may_commit nodes me matched log term commit (suc k)) refl (commits_no_less nodes me matched log term commit k)
  where
    go : (b : Bool) → may_commit nodes me matched log term commit (suc k) ≡ b → commit ≤ advance nodes me matched log term commit k →
        commit ≤ cond b (suc k) (advance nodes me matched log term commit k)
    go true t h = let l = ltb-true commit (suc k) (and_parts _ _ t).0 in omega arith
    go false t h = h

pub commits_no_more : {C : Type 0} (nodes me : ℕ) (matched : ℕ → ℕ) (log : List (Entry C)) (term commit k : ℕ) → advance nodes me matched log term commit k ≤ max commit k
commits_no_more nodes me matched log term commit zero = omega arith
commits_no_more nodes me matched log term commit (suc k) = go (may_commit nodes me matched log term commit (suc k)) (commits_no_more nodes me matched log term commit k)
  where
    go : (b : Bool) → advance nodes me matched log term commit k ≤ max commit k → cond b (suc k) (advance nodes me matched log term commit k) ≤ max commit (suc k)
    go true h = omega arith
    go false h = omega arith
