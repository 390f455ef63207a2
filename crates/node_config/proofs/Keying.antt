-- The keys of a map, and those of the members that it stands for.
use Rattle.std.specs.Prelude.{◌≡◌, ◌&&◌, List, [], ◌∷◌, map, refl, String, string_bytes}
use Rattle.std.specs.List.{list_all}
use Rattle.std.specs.declared.alloc.Global.{Global}
use Rattle.std.proofs.Common.{ap}
use Rattle.toml.specs.View.{members_view}
use Rattle.toml.specs.declared.value.Value.{Value}
use Rattle.node_config.specs.Entries.{is_known, keys_in}

pub known-keys : (es : List (String Global × Value)) → list_all (λ k. is_known (string_bytes k)) (map (λ e. e.0) es) ≡ list_all is_known (keys_in (members_view es))
known-keys [] = refl
known-keys (e ∷ es) = ap (λ b. is_known (string_bytes e.0) && b) (known-keys es)
