-- How a text stands in a picture, byte by byte.
use Rattle.std.specs.Prelude.{ℕ, ◌==◌, ◌||◌, List, [], ◌∷◌, ◌++◌, codes, if◌then◌else◌}
use Rattle.std.specs.Char.{is_ascii_graphic}

-- a byte that has a meaning in a picture has a name there, and one that is no visible ASCII or space is a question mark
abbrev pub escaped_byte : ℕ → List ℕ
escaped_byte b =
    if b == 38 then codes "&amp;" else if b == 60 then codes "&lt;" else if b == 62 then codes "&gt;" else if b == 34 then codes "&quot;"
    else if b == 39 then codes "&#39;" else if (b == 32) || is_ascii_graphic b then b ∷ [] else codes "?"

abbrev pub escaped : List ℕ → List ℕ
escaped [] = []
escaped (b ∷ bs) = escaped_byte b ++ escaped bs
