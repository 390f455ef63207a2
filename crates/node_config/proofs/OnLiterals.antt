-- What a proof unfolds to compute the configuration of a table and of a text that are written out.
use Rattle.std.specs.Prelude.{⊤}
use Rattle.std.specs.Str.{chars, is_utf8}
use Rattle.hex.proofs.OnLiterals.{hex_on_literals}
use Rattle.toml.proofs.OnLiterals.{toml_on_literals}
use Rattle.node_config.specs.Addresses.{address_of, number_before, port_of}
use Rattle.node_config.specs.Configs.{config_of, configured, table_of}
use Rattle.node_config.specs.Entries.{are_known, array_at, integer_at, is_known, string_at}
use Rattle.node_config.specs.Held.{addresses_in, clients_in, cluster_in, item_address, peers_in, period_in, stack_in}
use Rattle.node_config.specs.Names.{name_of}

-- texts of addresses and names
unfoldable pub words_on_literals : ⊤
unfolding hex_on_literals number_before port_of address_of name_of
words_on_literals = tt

-- tables
unfoldable pub tables_on_literals : ⊤
unfolding words_on_literals string_at integer_at array_at is_known are_known stack_in item_address addresses_in peers_in clients_in period_in cluster_in config_of
tables_on_literals = tt

-- texts of tables
unfoldable pub texts_on_literals : ⊤
unfolding tables_on_literals toml_on_literals chars is_utf8 table_of configured
texts_on_literals = tt
