-- What the keys of a table hold, and which keys a configuration has.
use Rattle.std.specs.Prelude.{ℕ, ℤ, Bool, List, [], ◌∷◌, Option, option_and_then, bytes_eq, codes}
use Rattle.std.specs.List.{list_all, list_any}
use Rattle.toml.specs.Data.{Items, Members, no_members, member, get_member, as_str, as_integer, as_array}

-- the value at a key, where it is of this type
unfoldable pub string_at : List ℕ → Members → Option (List ℕ)
string_at key t = option_and_then as_str (get_member key t)

unfoldable pub integer_at : List ℕ → Members → Option ℤ
integer_at key t = option_and_then as_integer (get_member key t)

unfoldable pub array_at : List ℕ → Members → Option Items
array_at key t = option_and_then as_array (get_member key t)

abbrev pub keys_in : Members → List (List ℕ)
keys_in no_members = []
keys_in (member key d t) = key ∷ keys_in t

abbrev pub known_keys : List (List ℕ)
known_keys = codes "stack" ∷ codes "peers" ∷ codes "clients" ∷ codes "heartbeat_ms" ∷ codes "election_ms" ∷ codes "cluster" ∷ []

unfoldable pub is_known : List ℕ → Bool
is_known key = list_any (bytes_eq key) known_keys

-- each key of the table is one of them
unfoldable pub are_known : Members → Bool
are_known t = list_all is_known (keys_in t)
