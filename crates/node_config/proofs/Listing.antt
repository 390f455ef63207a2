-- The addresses of some values, one at a time.
use Rattle.std.specs.Prelude.{◌≡◌, ℕ, ◌+◌, ◌<◌, ◌≤◌, List, [], ◌∷◌, ◌++◌, length, drop, Option, Some, None, option_map, option_and_then, refl}
use Rattle.std.proofs.Common.{ap, sym, ◌∙◌, append_assoc, get_or}
use Rattle.std.proofs.lemmas.List.{append-nil, drop_all}
use Rattle.outside.specs.declared.device.Address.{Address}
use Rattle.toml.proofs.Views.{items_view-drop}
use Rattle.toml.specs.View.{items_view, view}
use Rattle.toml.specs.declared.value.Value.{Value}
use Rattle.node_config.specs.Held.{addresses_of, item_address}

-- those that were found, and those that are owed for the rest
abbrev pub after_found : List Address → Option (List Address) → Option (List Address)
after_found found rest = option_map (λ others. found ++ others) rest

moved : (found : List Address) (a : Address) (rest : Option (List Address)) → after_found found (option_and_then (λ others. Some (a ∷ others)) rest) ≡ after_found (found ++ a ∷ []) rest
moved found a None = refl
moved found a (Some others) = ap Some (sym (append_assoc found (a ∷ []) others))

pub one-more : (values : List Value) (i : ℕ) (d : Value) (a : Address) (found : List Address) → i < length values → item_address (view (get_or values i d)) ≡ Some a
    → addresses_of (items_view values) ≡ after_found found (addresses_of (items_view (drop i values)))
    → addresses_of (items_view values) ≡ after_found (found ++ a ∷ []) (addresses_of (items_view (drop (i + 1) values)))
one-more values i d a found below is so_far =
    let rest = addresses_of (items_view (drop (i + 1) values)) in
    so_far
    ∙ (ap (λ ds. after_found found (addresses_of ds)) (items_view-drop values i d below)
    ∙ (ap (λ o. after_found found (option_and_then (λ x. option_and_then (λ others. Some (x ∷ others)) rest) o)) is ∙ moved found a rest))

pub none-there : (values : List Value) (i : ℕ) (d : Value) (found : List Address) → i < length values → item_address (view (get_or values i d)) ≡ None
    → addresses_of (items_view values) ≡ after_found found (addresses_of (items_view (drop i values)))
    → addresses_of (items_view values) ≡ None
none-there values i d found below is so_far =
    let rest = addresses_of (items_view (drop (i + 1) values)) in
    so_far
    ∙ (ap (λ ds. after_found found (addresses_of ds)) (items_view-drop values i d below)
    ∙ ap (λ o. after_found found (option_and_then (λ x. option_and_then (λ others. Some (x ∷ others)) rest) o)) is)

pub all-there : (values : List Value) (i : ℕ) (found : List Address) → length values ≤ i
    → addresses_of (items_view values) ≡ after_found found (addresses_of (items_view (drop i values)))
    → addresses_of (items_view values) ≡ Some found
all-there values i found over so_far =
    so_far ∙ (ap (λ vs. after_found found (addresses_of (items_view vs))) (drop_all i values over) ∙ ap Some (append-nil found))

-- at first
pub none-found : (rest : Option (List Address)) → rest ≡ after_found [] rest
none-found None = refl
none-found (Some others) = refl
