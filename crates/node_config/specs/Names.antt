-- The name of a cluster as hexadecimal digits.
use Rattle.std.specs.Prelude.{ℕ, List, Option, None, if◌then◌else◌}
use Rattle.std.specs.Result.{result_ok}
use Rattle.std.specs.Char.{is_ascii_uppercase}
use Rattle.std.specs.List.{list_any}
use Rattle.hex.specs.Hex.{decode_sized}

-- the 16 bytes of 32 digits, none of them in upper case
unfoldable pub name_of : List ℕ → Option (List ℕ)
name_of text = if list_any is_ascii_uppercase text then None else result_ok (decode_sized text 16)
