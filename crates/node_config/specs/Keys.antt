-- The words of the keys for which a configuration is refused.
use Rattle.std.specs.Prelude.{ℕ, List, codes}
use Rattle.node_config.specs.declared.key.ConfigKey.{ConfigKey}
use Rattle.node_config.specs.declared.key.ConfigKey.TheVariants as key

abbrev pub key_word : ConfigKey → List ℕ
key_word key.Text = codes "text"
key_word key.Stack = codes "stack"
key_word key.Peers = codes "peers"
key_word key.Clients = codes "clients"
key_word key.HeartbeatMs = codes "heartbeat_ms"
key_word key.ElectionMs = codes "election_ms"
key_word key.Cluster = codes "cluster"
key_word key.Unknown = codes "unknown"
key_word key.Me = codes "me"
