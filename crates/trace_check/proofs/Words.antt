-- How long texts of words are, and which optional words have one.
use Rattle.std.specs.Prelude.{◌≡◌, ℕ, suc, ◌+◌, ◌≤◌, true, ◌&&◌, nat_le, List, [], ◌∷◌, length, Option, Some, None, refl}
use Rattle.std.specs.Char.{is_ascii_graphic}
use Rattle.std.specs.List.{list_all}
use Rattle.std.proofs.Common.{length-append, arith}
use Rattle.std.proofs.lemmas.Bool.{and_parts, leb-true}
use Rattle.app_text.specs.Words.{is_optional, joined, optional_text}
use Rattle.vst_base.specs.Tokens.{is_token}
use Rattle.trace_check.proofs.Eaches.{IfThere}

pub token-length : (most : ℕ) (w : List ℕ) → is_token most w ≡ true → length w ≤ most
token-length most w is =
    let parts = and_parts (nat_le 1 (length w)) (nat_le (length w) most && list_all is_ascii_graphic w) is in
    leb-true (length w) most (and_parts (nat_le (length w) most) (list_all is_ascii_graphic w) parts.1).0

pub optional-length : (most : ℕ) (o : Option (List ℕ)) → is_optional most o ≡ true → length (optional_text o) ≤ most + 1
optional-length most None is = omega arith
optional-length most (Some w) is = let token = token-length most w is in omega (arith, token)

pub optional-token : (most : ℕ) (o : Option (List ℕ)) → IfThere (λ w. is_token most w ≡ true) o → is_optional most o ≡ true
optional-token most None has = refl
optional-token most (Some w) has = has

-- the lengths of words, with a byte after each
abbrev pub lengths : List (List ℕ) → ℕ
lengths [] = 0
lengths (w ∷ ws) = length w + suc (lengths ws)

pub joined-length : (ws : List (List ℕ)) → length (joined ws) ≤ lengths ws
joined-length [] = omega arith
joined-length (w ∷ []) = omega arith
joined-length (w ∷ v ∷ ws) = let rest = joined-length (v ∷ ws) in omega (arith, rest, length-append w (32 ∷ joined (v ∷ ws)))
