-- The verdict on a schedule is yes exactly where its network allows it and what clients then see reads the same.
use Rattle.std.specs.Prelude.{◌≡◌, ℕ, ◌+◌, Bool, true, false, List, [], ◌∷◌, Option, Some, None, option_map, cond, refl}
use Rattle.std.proofs.Common.{ap, ◌∙◌, sym}
use Rattle.std.proofs.lemmas.Slice.Eq.{bytes_eq-Decides}
use Rattle.schedule_text.specs.Words.{is_text}
use Rattle.claim_verdicts.specs.Places.{false_at, first_difference}
use Rattle.claim_verdicts.specs.declared.verdict.Verdict.TheVariants.{Yes}

-- texts that nowhere differ are the same
pub same-lines : (n : ℕ) (ls ms : List (List ℕ)) → first_difference n ls ms ≡ None → ls ≡ ms
same-lines n [] [] e = refl
same-lines n [] (m ∷ ms) e = cc
same-lines n (l ∷ ls) [] e = cc
same-lines n (l ∷ ls) (m ∷ ms) e = by (same-lines (n + 1) ls ms) (is_text l m) refl e where
  by : (first_difference (n + 1) ls ms ≡ None → ls ≡ ms) → (b : Bool) → is_text l m ≡ b → cond b (first_difference (n + 1) ls ms) (Some n) ≡ None → (l ∷ ls) ≡ (m ∷ ms)
  by behind true s e = ap (λ x. x ∷ ls) ((bytes_eq-Decides l m).0 s) ∙ ap (λ xs. m ∷ xs) (behind e)
  by behind false s e = cc

no-difference : (n : ℕ) (ls : List (List ℕ)) → first_difference n ls ls ≡ None
no-difference n [] = refl
no-difference n (l ∷ ls) = ap (λ b. cond b (first_difference (n + 1) ls ls) (Some n)) ((bytes_eq-Decides l l).1 refl) ∙ no-difference (n + 1) ls

pub lines-same : (n : ℕ) (ls ms : List (List ℕ)) → ls ≡ ms → first_difference n ls ms ≡ None
lines-same n ls ms e = ap (λ xs. first_difference n ls xs) (sym e) ∙ no-difference n ls

pub both-true : {A : Type 0} (i j : ℕ) (f : A → ℕ) (g : ℕ → ℕ) (a : Option A) (b : Option ℕ) → false_at i (option_map f a) (false_at j (option_map g b) Yes) ≡ Yes → (a ≡ None) × (b ≡ None)
both-true i j f g None None e = (refl, refl)
both-true i j f g None (Some p) e = cc
both-true i j f g (Some p) b e = cc

pub all-true : (i j k : ℕ) (f g h : ℕ → ℕ) (a b c : Option ℕ) → false_at i (option_map f a) (false_at j (option_map g b) (false_at k (option_map h c) Yes)) ≡ Yes → (a ≡ None) × (b ≡ None) × (c ≡ None)
all-true i j k f g h None None None e = (refl, refl, refl)
all-true i j k f g h None None (Some p) e = cc
all-true i j k f g h None (Some p) c e = cc
all-true i j k f g h (Some p) b c e = cc
