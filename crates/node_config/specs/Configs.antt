-- The configuration that a text says, or the first key for which it is refused.
use Rattle.std.specs.Prelude.{ℕ, ◌&&◌, nat_le, nat_lt, List, length, Option, Some, None, Result, Ok, Err, codes, if◌then◌else◌}
use Rattle.std.specs.Str.{is_utf8}
use Rattle.outside.specs.declared.device.Address.{Address}
use Rattle.toml.specs.Data.{Members}
use Rattle.toml.specs.Parse.{parse_document}
use Rattle.vst_base.specs.declared.stack.StackId.{StackId}
use Rattle.node_config.specs.Entries.{are_known}
use Rattle.node_config.specs.Held.{stack_in, peers_in, clients_in, period_in, cluster_in}
use Rattle.node_config.specs.declared.config.Config.{Config}
use Rattle.node_config.specs.declared.key.ConfigKey.{ConfigKey}
use Rattle.node_config.specs.declared.key.ConfigKey.TheVariants as key
use Rattle.node_config.specs.declared.limits.TheConstants.{MAX_CONFIG}

infixl 10 ◌>>=◌
abbrev pub ◌>>=◌ : {A B : Type 0} → Result A ConfigKey → (A → Result B ConfigKey) → Result B ConfigKey
Ok a >>= f = f a
Err k >>= f = Err k

-- what a key needs, or else the key
abbrev pub need : {A : Type 0} → ConfigKey → Option A → Result A ConfigKey
need k None = Err k
need k (Some a) = Ok a

-- a configuration of these parts
abbrev pub config_as : StackId → ℕ → List Address → List Address → ℕ → ℕ → List ℕ → Config
config_as stack me peers clients heartbeat election cluster = record {
  stack = stack;
  me = me;
  peers = peers;
  clients = clients;
  heartbeat_ms = heartbeat;
  election_ms = election;
  cluster = cluster;
}

-- the same, if its node is one of the peers
abbrev pub of_a_peer : Config → Result Config ConfigKey
of_a_peer config = if nat_lt config.me (length config.peers) then Ok config else Err key.Me

-- the configuration of node `me` that a table says
unfoldable pub config_of : ℕ → Members → Result Config ConfigKey
config_of me t = do
  stack ← need key.Stack (stack_in t)
  peers ← need key.Peers (peers_in t)
  clients ← need key.Clients (clients_in peers t)
  heartbeat ← need key.HeartbeatMs (period_in (codes "heartbeat_ms") t)
  election ← need key.ElectionMs (period_in (codes "election_ms") t)
  cluster ← need key.Cluster (cluster_in t)
  if are_known t then of_a_peer (config_as stack me peers clients heartbeat election cluster) else Err key.Unknown

-- the table of a text that is not too long, where it is a document
unfoldable pub table_of : List ℕ → Option Members
table_of text = if nat_le (length text) MAX_CONFIG && is_utf8 text then parse_document text else None

-- the configuration of node `me` that a text says
unfoldable pub configured : ℕ → List ℕ → Result Config ConfigKey
configured me text = need key.Text (table_of text) >>= config_of me
