-- Which status a node's run answers where no call fails.
use Rattle.std.specs.Prelude.{◌≡◌, ◌⊎◌, ℕ, Option, None, Some, Result, Ok, Err, IfSome}
use Rattle.command_line.specs.AskedNodes.{NodeWordsView}
use Rattle.node_config.specs.Configs.{configured}
use Rattle.node_config.specs.declared.config.Config.{Config}
use Rattle.node_config.specs.declared.key.ConfigKey.{ConfigKey}
use Rattle.node_device.specs.Telling.{Told}
use Rattle.outside.specs.Counting.{Rose}
use Rattle.slots.specs.Opening.{Why}
use Rattle.udp_node.specs.Stacks.{refused_areas}
use Rattle.commands.specs.NodeSeen.{NodeRun}

abbrev pub areas_status : Option Why → ℕ
areas_status None = 0
areas_status (Some why) = 9

-- the status of what a configuration says, which needs no areas where it is refused
abbrev pub IsStatusOf : Result Config ConfigKey → Option Told → ℕ → Type 0
IsStatusOf (Err key) told result = result ≡ 3
IsStatusOf (Ok config) told result = IfSome told (λ before. result ≡ areas_status (refused_areas config.stack config before))

-- no call failed but sends, which are losses
pub record NoneRose (r : NodeRun) : Type 0 where
  pub reads : ¬ Rose r.streams.before.input.faults r.streams.after.input.faults
  pub writes : ¬ Rose r.streams.before.out.faults r.streams.after.out.faults
  pub complains : ¬ Rose r.streams.before.err.faults r.streams.after.err.faults
  pub begins : ¬ Rose r.before.faults.begin r.after.faults.begin
  pub receives : ¬ Rose r.before.faults.receive r.after.faults.receive
  pub stores : ¬ Rose r.before.faults.store r.after.faults.store

abbrev pub IsComplete : NodeWordsView → NodeRun → ℕ → Type 0
IsComplete w r result = IfSome r.streams.before.input.left (λ text.
    NoneRose r → IsStatusOf (configured w.me text) r.before.told result ⊎ (result ≡ 8))
