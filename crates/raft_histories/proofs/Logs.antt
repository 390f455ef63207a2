-- Logs that agree up to an index, and the terms in them.
use Rattle.std.proofs.Common.{◌≡◌, ℕ, zero, suc, ◌<◌, ◌≤◌, List, [], ◌∷◌, ◌++◌, length, take, refl, sym, ap, ◌∙◌, arith, ◌⊎◌, inl, inr}
use Rattle.std.proofs.Math.Seq.{take-length}
use Rattle.vst_base.specs.declared.entry.Entry.{Entry}
use Rattle.vst_base.specs.Logs.{term_at}
use Rattle.raft_histories.specs.Prefixes.{Same}
use Rattle.lists.specs.Places.{take_less}
use Rattle.lists.specs.Prefixes.{IsPrefix}

pub same_refl : {A : Type 0} (k : ℕ) (l : List A) → Same k l l
same_refl k l = record { eq = refl }

pub same_sym : {A : Type 0} {k : ℕ} {l m : List A} → Same k l m → Same k m l
same_sym s = record { eq = sym s.eq }

pub same_trans : {A : Type 0} {k : ℕ} {l m o : List A} → Same k l m → Same k m o → Same k l o
same_trans s t = record { eq = s.eq ∙ t.eq }

pub same_less : {A : Type 0} {k : ℕ} {l m : List A} (j : ℕ) → j ≤ k → Same k l m → Same j l m
same_less {k = k} {l = l} {m = m} j h s = record { eq = sym (take_less j k l h) ∙ (ap (take j) s.eq ∙ take_less j k m h) }

pub same_take : {A : Type 0} (k : ℕ) (l : List A) → Same k (take k l) l
same_take k l = record { eq = take_less k k l (omega arith) }

pub same_append : {A : Type 0} (k : ℕ) (l m : List A) → k ≤ length l → Same k l (l ++ m)
same_append zero l m h = record { eq = refl }
same_append (suc k) [] m h = absurd (omega arith)
same_append (suc k) (x ∷ l) m h = record { eq = ap (λ ys. x ∷ ys) (same_append k l m (omega arith)).eq }

same_length_go : {A : Type 0} (k : ℕ) (l m : List A) → take k l ≡ take k m → k ≤ length l → k ≤ length m
same_length_go zero l m e h = omega arith
same_length_go (suc k) [] m e h = absurd (omega arith)
same_length_go (suc k) (x ∷ l) [] e h = absurd (cc e)
same_length_go (suc k) (x ∷ l) (y ∷ m) e h = let t = same_length_go k l m (cc e) (omega arith) in omega arith

pub same_length : {A : Type 0} {k : ℕ} {l m : List A} → Same k l m → k ≤ length l → k ≤ length m
same_length {k = k} {l = l} {m = m} s h = same_length_go k l m s.eq h

term_take : {C : Type 0} (k n : ℕ) (l : List (Entry C)) → n ≤ k → term_at (take k l) n ≡ term_at l n
term_take {C = C} k n [] h = elim k as (λ k. term_at {C = C} (take k []) n ≡ 0) [ zero ↦ refl | suc k ↦ refl ]
term_take zero zero (x ∷ l) h = refl
term_take zero (suc n) (x ∷ l) h = absurd (omega arith)
term_take (suc k) zero (x ∷ l) h = refl
term_take (suc k) (suc zero) (x ∷ l) h = refl
term_take (suc k) (suc (suc n)) (x ∷ l) h = term_take k (suc n) l (omega arith)

pub same_term : {C : Type 0} {k : ℕ} {l m : List (Entry C)} (n : ℕ) → n ≤ k → Same k l m → term_at l n ≡ term_at m n
same_term {k = k} {l = l} {m = m} n h s = sym (term_take k n l h) ∙ (ap (λ x. term_at x n) s.eq ∙ term_take k n m h)

-- an index with a term is in the log
pub term_in : {C : Type 0} (l : List (Entry C)) (n : ℕ) → 0 < term_at l n → n ≤ length l
term_in [] n h = absurd (omega arith)
term_in (x ∷ l) zero h = omega arith
term_in (x ∷ l) (suc zero) h = omega arith
term_in (x ∷ l) (suc (suc n)) h = let t = term_in l (suc n) h in omega arith

pub term_index : {C : Type 0} (l : List (Entry C)) (n : ℕ) → 0 < term_at l n → 0 < n
term_index [] n h = absurd (omega arith)
term_index (x ∷ l) zero h = absurd (omega arith)
term_index (x ∷ l) (suc n) h = omega arith

pub term_append_in : {C : Type 0} (l m : List (Entry C)) (n : ℕ) → n ≤ length l → term_at (l ++ m) n ≡ term_at l n
term_append_in l m n h = sym (same_term n (omega arith) (same_append n l m h))

pub term_append_end : {C : Type 0} (l : List (Entry C)) (e : Entry C) → term_at (l ++ e ∷ []) (suc (length l)) ≡ e.term
term_append_end [] e = refl
term_append_end (x ∷ l) e = term_append_end l e

-- an index of a log that grew by one entry
pub term_append_one : {C : Type 0} (l : List (Entry C)) (e : Entry C) (n : ℕ) → (term_at (l ++ e ∷ []) n ≡ term_at l n) ⊎ (term_at (l ++ e ∷ []) n ≡ e.term)
term_append_one [] e zero = inl refl
term_append_one [] e (suc zero) = inr refl
term_append_one [] e (suc (suc n)) = inl refl
term_append_one (x ∷ l) e zero = inl refl
term_append_one (x ∷ l) e (suc zero) = inl refl
term_append_one (x ∷ l) e (suc (suc n)) = term_append_one l e (suc n)

-- a prefix is equal to the whole up to its end
pub same_prefix : {A : Type 0} {l : List A} (m : List A) → IsPrefix l m → Same (length l) l m
same_prefix {l = l} m f = record { eq = take-length l ∙ sym f }

pub prefix_same : {A : Type 0} {l m : List A} → Same (length l) l m → IsPrefix l m
prefix_same {l = l} s = sym s.eq ∙ take-length l

pub front_same : {A : Type 0} {l : List A} (m : List A) (k : ℕ) → k ≤ length l → IsPrefix l m → Same k l m
front_same m k h f = same_less k h (same_prefix m f)

pub front_term : {C : Type 0} {l : List (Entry C)} (m : List (Entry C)) (n : ℕ) → n ≤ length l → IsPrefix l m → term_at l n ≡ term_at m n
front_term m n h f = same_term n h (same_prefix m f)
