-- What reading the configuration, beginning and taking turns come to.
use Rattle.std.specs.Prelude.{◌≡◌, ◌+◌, ℕ, [], ◌∷◌, drop, Some, None, option_map, Result, Ok, Err, IfSome}
use Rattle.std.specs.List.{slice_get}
use Rattle.command_line.specs.AskedNodes.{NodeWordsView}
use Rattle.disk.specs.Acts.{Began, BeginFailed}
use Rattle.node_config.specs.Configs.{configured}
use Rattle.node_config.specs.Outcomes.{Fits, Took}
use Rattle.node_config.specs.declared.config.Config.{Config}
use Rattle.node_config.specs.declared.fault.ConfigFault.{ConfigFault}
use Rattle.node_config.specs.declared.fault.ConfigFault.TheVariants as config
use Rattle.node_config.specs.declared.key.ConfigKey.{ConfigKey}
use Rattle.node_config.specs.declared.limits.TheConstants.{MAX_CONFIG}
use Rattle.node_datagrams.specs.Saying.{SendsOnly}
use Rattle.node_device.specs.Faults.{BeginCounts}
use Rattle.node_device.specs.Telling.{Did, Told, told_after}
use Rattle.outside.specs.Counting.{Rose}
use Rattle.outside.specs.declared.device.Address.{Address}
use Rattle.outside.specs.declared.device.Begun.TheVariants as begun
use Rattle.commands.specs.Seen.{SourceSeen}
use Rattle.udp_node.specs.Causes.{RanFault}
use Rattle.udp_node.specs.Serving.{Meets, StillTold}
use Rattle.udp_node.specs.Stacks.{EndedOn, ServedOn, refused_areas}
use Rattle.udp_node.specs.declared.fault.NodeFault.{NodeFault}
use Rattle.commands.specs.NodeSeen.{DeviceSeen}
use Rattle.commands.specs.declared.trouble.Trouble.{Trouble}
use Rattle.commands.specs.declared.trouble.Trouble.TheVariants as trouble

-- the trouble that a fault of the configuration is
abbrev pub trouble_of : ConfigFault → Trouble
trouble_of config.Read = trouble.Read
trouble_of (config.Refused key) = trouble.Config key
trouble_of config.Memory = trouble.Memory

-- A configuration of node `me` was read: where the input tells, it says this one, and was read to its end.
pub record HasRead (me : ℕ) (config : Config) (before after : SourceSeen) : Type 0 where
  pub fits : Fits me config
  pub says : IfSome before.left (λ text. configured me text ≡ Ok config)
  pub ended : IfSome before.left (λ text. after.left ≡ Some [])
  pub quiet : after.faults ≡ before.faults

module _ (w : NodeWordsView) (input input' : SourceSeen) (device device' : DeviceSeen) where
  -- The configuration was read, and this is the address of its node.
  pub record IsConfigured (config : Config) (at : Address) : Type 0 where
    pub read : HasRead w.me config input input'
    pub at_is : slice_get config.peers config.me ≡ Some at

  -- The device began at this address and the words' directory, and this is what it tells then.
  abbrev pub begun_at : Address → Told → Told
  begun_at at told = told_after told (Began at w.state ∷ [])

  -- All turns were taken.
  pub record IsServed : Type 0 where
    pub config : Config
    pub at : Address
    pub configured_so : IsConfigured config at
    pub areas : IfSome device.told (λ told. refused_areas config.stack config told ≡ None)
    pub turns : StillTold (1 + w.turns) device.told device'.told
        (λ before now. ServedOn config.stack config w.turns (begun_at at before) now)
    pub counts : SendsOnly device.faults device'.faults

  -- The node ended by a fault before its last turn.
  pub record IsEnded (e : NodeFault) : Type 0 where
    pub config : Config
    pub at : Address
    pub configured_so : IsConfigured config at
    pub areas : IfSome device.told (λ told. Meets {T = Unit {0}} (refused_areas config.stack config told) (Err e))
    pub ended : StillTold (1 + w.turns) device.told device'.told
        (λ before now. EndedOn config.stack config e w.turns (begun_at at before) now)
    pub counts : RanFault device.faults device'.faults e

  -- The device could not begin.
  pub record IsUnbegun : Type 0 where
    pub config : Config
    pub at : Address
    pub configured_so : IsConfigured config at
    pub told : Did device.told device'.told (BeginFailed at w.state ∷ [])
    pub counts : BeginCounts device.faults device'.faults begun.Failed

  -- The configuration is refused for a key. It was read to its end, or to the byte that makes it too long, and nothing was done with
  -- the device.
  pub record IsRefused (key : ConfigKey) : Type 0 where
    pub says : IfSome input.left (λ text. configured w.me text ≡ Err key)
    pub given : input'.left ≡ option_map (drop (MAX_CONFIG + 1)) input.left
    pub quiet : input'.faults ≡ input.faults
    pub device_stays : device' ≡ device

  -- A read of it failed, before that byte.
  pub record IsUnread : Type 0 where
    pub given : Took input.left input'.left MAX_CONFIG
    pub rose : Rose input.faults input'.faults
    pub device_stays : device' ≡ device

  -- Memory was wanted before the device had begun.
  pub record IsWanting : Type 0 where
    pub quiet : input'.faults ≡ input.faults
    pub device_stays : device' ≡ device

  abbrev pub Comes : Result (Unit {0}) Trouble → Type 0
  Comes (Ok x) = IsServed
  Comes (Err trouble.Read) = IsUnread
  Comes (Err (trouble.Config key)) = IsRefused key
  Comes (Err trouble.Begin) = IsUnbegun
  Comes (Err (trouble.Ended e)) = IsEnded e
  Comes (Err trouble.Memory) = IsWanting
