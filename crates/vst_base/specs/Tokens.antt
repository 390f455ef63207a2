-- What a token is: the words of texts that an application chooses, as keys and values.
use Rattle.std.specs.Prelude.{ℕ, Bool, ◌&&◌, nat_le, List, length, Option, Some, None, if◌then◌else◌}
use Rattle.std.specs.Char.{is_ascii_graphic}
use Rattle.std.specs.List.{list_all}

-- at least one byte and at most so many, each of visible ASCII, 21 to 7E: no space and no control byte
abbrev pub is_token : ℕ → List ℕ → Bool
is_token most bs = nat_le 1 (length bs) && (nat_le (length bs) most && list_all is_ascii_graphic bs)

-- the token that these bytes are, if they are one
abbrev pub token_of : ℕ → List ℕ → Option (List ℕ)
token_of most bs = if is_token most bs then Some bs else None

-- how long keys and values are
abbrev pub is_key : List ℕ → Bool
is_key bs = is_token 64 bs

abbrev pub is_value : List ℕ → Bool
is_value bs = is_token 1024 bs
