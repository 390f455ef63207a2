-- The words of a text, by the place of its first space.
use Rattle.std.proofs.Common.{◌≡◌, ◌==◌, ℕ, ◌+◌, Bool, true, false, cond, List, [], ◌∷◌, length, take, drop, position, nat_lt, None, Some, refl, ap, ◌∙◌, arith}
use Rattle.std.specs.List.{position_or_len}
use Rattle.std.proofs.lemmas.Bool.{ltb-true, ltb-false}
use Rattle.std.proofs.lemmas.List.Splits.{slice_split_first, slice_split_none}
use Rattle.std.proofs.lemmas.List.Sums.{fails_before_first}
use Rattle.app_text.specs.Words.{words_of}

abbrev place : List ℕ → ℕ
place bs = position_or_len (λ b. b == 32) bs

pub no_space : (bs : List ℕ) → position (λ b. b == 32) bs ≡ None → words_of bs ≡ bs ∷ []
no_space bs none = by (nat_lt (place bs) (length bs)) refl none
  where
    by : (t : Bool) → nat_lt (place bs) (length bs) ≡ t → cond t (Some (place bs)) None ≡ None → words_of bs ≡ bs ∷ []
    by true is e = cc
    by false is e = slice_split_none (λ b. b == 32) bs (λ k d within. fails_before_first (λ b. b == 32) bs k d (omega (arith, ltb-false _ _ is)))

pub first_space : (bs : List ℕ) (i : ℕ) → position (λ b. b == 32) bs ≡ Some i → words_of bs ≡ take i bs ∷ words_of (drop (i + 1) bs)
first_space bs i at = by (nat_lt (place bs) (length bs)) refl at
  where
    by : (t : Bool) → nat_lt (place bs) (length bs) ≡ t → cond t (Some (place bs)) None ≡ Some i → words_of bs ≡ take i bs ∷ words_of (drop (i + 1) bs)
    by true is e =
        let same : place bs ≡ i = cc in
        slice_split_first (λ b. b == 32) bs 0 (ltb-true _ _ is) ∙ ap (λ n. take n bs ∷ words_of (drop (n + 1) bs)) same
    by false is e = cc
