-- Lines that come one after another, and those that are claimed.
use Rattle.std.specs.Prelude.{◌≡◌, ℕ, ◌+◌, ◌<◌, ◌≤◌, List, [], ◌∷◌, ◌++◌, length, map, drop, Option, Some, refl}
use Rattle.std.proofs.Common.{ap, ◌∙◌, sym, append_assoc, arith, drop-drop}
use Rattle.std.proofs.lemmas.List.{drop_all, drop-map}
use Rattle.claim_verdicts.specs.Comparing.{difference_after}
use Rattle.claim_verdicts.specs.Places.{first_difference}
use Rattle.claim_verdicts.specs.declared.comparison.Comparison.{Comparison}

-- where two lists of lines differ first that are the same up to a place of both, where more come after the second
abbrev pub difference_from : {A : Type 0} → (A → List ℕ) → ℕ → List A → List A → List (List ℕ) → ℕ → Option ℕ
difference_from text n claimed came more i = first_difference (n + i) (map text (drop i claimed)) (map text (drop i came) ++ more)

-- where lines that are claimed are left
pub left-over : (n : ℕ) (ls : List (List ℕ)) → 0 < length ls → first_difference n ls [] ≡ Some n
left-over n [] some = absurd (omega (arith, some))
left-over n (l ∷ ls) some = refl

-- where all came
pub lines-same : {A : Type 0} (text : A → List ℕ) (n i : ℕ) (claimed came : List A) → length came ≤ i → i ≤ length came
    → (more : List (List ℕ)) → difference_from text n (drop n claimed) came more i ≡ first_difference (n + length came) (drop (n + length came) (map text claimed)) more
lines-same text n i claimed came over within = λ more.
    let all : i ≡ length came = omega (arith, over, within) in
    ap (λ ys. first_difference (n + i) (map text (drop i (drop n claimed))) (map text ys ++ more)) (drop_all i came over)
    ∙ (ap (λ xs. first_difference (n + i) (map text xs) more) (drop-drop i n claimed)
    ∙ (ap (λ xs. first_difference (n + i) xs more) (sym (drop-map text (n + i) claimed))
    ∙ ap (λ k. first_difference (n + k) (drop (n + k) (map text claimed)) more) all))

-- it is the comparison of the lines that came so far, whatever comes after them
abbrev pub Compares : Comparison → List (List ℕ) → List (List ℕ) → Type 0
Compares c claimed came = (more : List (List ℕ)) → first_difference 0 claimed (came ++ more) ≡ difference_after c claimed more

pub compares-more : (c d : Comparison) (claimed before came : List (List ℕ)) → Compares c claimed before
    → ((more : List (List ℕ)) → difference_after c claimed (came ++ more) ≡ difference_after d claimed more) → Compares d claimed (before ++ came)
compares-more c d claimed before came had on = λ more.
    ap (first_difference 0 claimed) (append_assoc before came more) ∙ (had (came ++ more) ∙ on more)
