-- What a node of a configuration is to do, and which events come to it.
use Rattle.std.specs.Prelude.{◌≢◌, ◌<◌, ℕ, length}
use Rattle.node_config.specs.declared.config.Config.{Config}
use Rattle.node_run.specs.Settings.{Settings}
use Rattle.node_run.specs.declared.event.Event.{Event}
use Rattle.node_run.specs.declared.event.Event.TheVariants.{Peer}

abbrev pub settings_of : Config → Settings
settings_of config = record {
  stack = config.stack;
  me = config.me;
  name = config.cluster;
  peers = config.peers;
  clients = config.clients;
  heartbeat = config.heartbeat_ms;
  election = config.election_ms;
}

-- a node of the cluster, and not the one that is configured
pub record IsAnotherNode (config : Config) (n : ℕ) : Type 0 where
  pub within : n < length config.peers
  pub other : n ≢ config.me

-- messages come from another node; of other events nothing is said
abbrev pub IsEventOf : {C : Type 0} → Config → Event C → Type 0
IsEventOf config (Peer from message) = IsAnotherNode config from
IsEventOf config event = Unit {0}
