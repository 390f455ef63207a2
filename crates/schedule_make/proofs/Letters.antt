-- A letter and a number are a token.
use Rattle.std.specs.Prelude.{◌≡◌, ℕ, ◌+◌, ◌^◌, ◌%◌, ◌<◌, ◌≤◌, true, [], ◌∷◌, length}
use Rattle.std.specs.Char.{is_ascii_graphic}
use Rattle.std.specs.Fmt.{decimal}
use Rattle.std.specs.List.{list_all}
use Rattle.std.proofs.Common.{arith, refl, ◌∙◌}
use Rattle.std.proofs.lemmas.Bool.{and_from, le-leb}
use Rattle.std.proofs.lemmas.Fmt.{decimal_by_steps, length-decimal-le}
use Rattle.std.proofs.lemmas.List.Folds.{list_all-append}
use Rattle.std.proofs.lemmas.Nat.{mod_below}
use Rattle.vst_base.specs.Tokens.{is_token}

digit-visible : (d : ℕ) → d < 10 → is_ascii_graphic (48 + d) ≡ true
digit-visible d small = and_from _ _ (le-leb 33 (48 + d) (omega arith)) (le-leb (48 + d) 126 (omega (arith, small)))

digits-visible : (n : ℕ) → n < 2 ^ 64 → list_all is_ascii_graphic (decimal n) ≡ true
digits-visible n low = decimal_by_steps (λ n ds. list_all is_ascii_graphic ds ≡ true)
    (λ n small. and_from _ _ (digit-visible n small) refl)
    (λ n ds more seen.
    let last = digit-visible (n % 10) (mod_below n 10 (omega arith)) in
    list_all-append is_ascii_graphic ds ((48 + n % 10) ∷ []) ∙ and_from _ _ seen (and_from _ _ last refl)) n low

pub digits-few : (n : ℕ) → n < 2 ^ 64 → length (decimal n) ≤ 20
digits-few n low = length-decimal-le 20 n (omega arith) (omega (arith, low)) low

-- a visible letter and a number
pub letter-number : (most letter n : ℕ) → 21 ≤ most → is_ascii_graphic letter ≡ true → n < 2 ^ 64 → is_token most (letter ∷ decimal n) ≡ true
letter-number most letter n room seen low =
    and_from _ _ (le-leb 1 (length (letter ∷ decimal n)) (omega arith))
    (and_from _ _ (le-leb (length (letter ∷ decimal n)) most (omega (arith, digits-few n low, room))) (and_from _ _ seen (digits-visible n low)))
