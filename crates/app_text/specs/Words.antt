-- Texts as words with one space between each two.
use Rattle.std.specs.Prelude.{ℕ, Bool, true, ◌==◌, List, [], ◌∷◌, Option, None, Some, codes, if◌then◌else◌}
use Rattle.std.specs.Char.{is_ascii_graphic}
use Rattle.std.specs.List.{join_with_byte, list_all, slice_split}
use Rattle.std.specs.Option.{option_map, option_map_or}
use Rattle.std.specs.Str.{bytes_eq}
use Rattle.vst_base.specs.Tokens.{is_token, token_of}

abbrev pub words_of : List ℕ → List (List ℕ)
words_of bs = slice_split (λ b. b == 32) bs

abbrev pub joined : List (List ℕ) → List ℕ
joined ws = join_with_byte 32 ws

-- visible bytes alone, as in each token
abbrev pub is_word : List ℕ → Bool
is_word w = list_all is_ascii_graphic w

-- a token that may be left out: `-`, or `=` and the token
abbrev pub optional_text : Option (List ℕ) → List ℕ
optional_text None = codes "-"
optional_text (Some w) = 61 ∷ w

abbrev pub optional_of : ℕ → List ℕ → Option (Option (List ℕ))
optional_of most [] = None
optional_of most (b ∷ bs) =
    if b == 61 then option_map (λ w. Some w) (token_of most bs)
    else if bytes_eq (b ∷ bs) (codes "-") then Some None
    else None

-- none, or a token
abbrev pub is_optional : ℕ → Option (List ℕ) → Bool
is_optional most o = option_map_or (is_token most) o true
