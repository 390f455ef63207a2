use Rattle.std.proofs.Common.{◌≡◌, drop}
use Rattle.toml.specs.View.{items_view}
use Rattle.node_config.specs.Held.{addresses_of}
use Rattle.node_config.proofs.Listing.{after_found}
use Rattle.node_config.proofs.table.addresses_of.Given as goal

-- those that were found, and those of the rest
abbrev pub invariant-loop-value : goal.invariant-loop-value
invariant-loop-value l = addresses_of (items_view l.values) ≡ after_found l.addresses.items (addresses_of (items_view (drop l.value-index l.values)))
