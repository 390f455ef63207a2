-- What reading a configuration comes to.
use Rattle.std.specs.Prelude.{◌≡◌, ℕ, Bool, true, nat_le, ◌+◌, ◌<◌, ◌≤◌, List, ◌++◌, length, drop, Option, Some, option_map, Result, Ok, Err}
use Rattle.std.specs.List.{list_all}
use Rattle.outside.specs.declared.device.Address.{Address}
use Rattle.vst_base.specs.declared.node.TheConstants.{MAX_NODES}
use Rattle.node_config.specs.Addresses.{are_distinct}
use Rattle.node_config.specs.Held.{on_a_node}
use Rattle.node_config.specs.declared.config.Config.{Config}
use Rattle.node_config.specs.declared.fault.ConfigFault.{ConfigFault}
use Rattle.node_config.specs.declared.fault.ConfigFault.TheVariants as fault
use Rattle.node_config.specs.declared.key.ConfigKey.{ConfigKey}
use Rattle.node_config.specs.declared.limits.TheConstants.{MAX_CLIENTS, MAX_CONFIG, MAX_PERIOD}

-- a configuration or a key is answered, unless memory is wanted. Nothing is read
abbrev pub Comes : Result Config ConfigKey → Result Config ConfigFault → Type 0
Comes is (Ok config) = is ≡ Ok config
Comes is (Err (fault.Refused key)) = is ≡ Err key
Comes is (Err fault.Read) = ⊥
Comes is (Err fault.Memory) = Unit {0}

-- the same, unless a read fails
abbrev pub Tells : Result Config ConfigKey → Result Config ConfigFault → Type 0
Tells is (Ok config) = is ≡ Ok config
Tells is (Err (fault.Refused key)) = is ≡ Err key
Tells is (Err fault.Read) = Unit {0}
Tells is (Err fault.Memory) = Unit {0}

-- a text that was not read: it is not refused for a key
abbrev pub IsUnread : ConfigFault → Type 0
IsUnread (fault.Refused key) = ⊥
IsUnread fault.Read = Unit {0}
IsUnread fault.Memory = Unit {0}

-- at most so many bytes were taken of what was left
abbrev pub Took : Option (List ℕ) → Option (List ℕ) → ℕ → Type 0
Took old new most = (n : ℕ) × (n ≤ most) × (new ≡ option_map (drop n) old)

-- what a source has left. A text was taken to its end, or to the byte that makes it too long; less where a read failed
abbrev pub Leaves : {A : Type 0} → Option (List ℕ) → Option (List ℕ) → Result A ConfigFault → Type 0
Leaves old new (Ok x) = new ≡ option_map (drop (MAX_CONFIG + 1)) old
Leaves old new (Err (fault.Refused key)) = new ≡ option_map (drop (MAX_CONFIG + 1)) old
Leaves old new (Err fault.Read) = Took old new MAX_CONFIG
Leaves old new (Err fault.Memory) = Took old new (MAX_CONFIG + 1)

-- so many milliseconds
abbrev pub IsPeriod : ℕ → Type 0
IsPeriod ms = (1 ≤ ms) × (ms ≤ MAX_PERIOD)

abbrev pub has_port : Address → Bool
has_port a = nat_le 1 a.port

-- what holds of each configuration of node `me`
pub record Fits (me : ℕ) (config : Config) : Type 0 where
  pub stack : on_a_node config.stack ≡ Some config.stack
  pub me_is : config.me ≡ me
  pub within : me < length config.peers
  pub peers : length config.peers ≤ MAX_NODES
  pub clients : length config.clients ≤ MAX_CLIENTS
  pub ports : list_all has_port (config.peers ++ config.clients) ≡ true
  pub distinct : are_distinct (config.peers ++ config.clients) ≡ true
  pub heartbeat : IsPeriod config.heartbeat_ms
  pub election : IsPeriod config.election_ms
