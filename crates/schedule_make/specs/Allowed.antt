-- When a world has a step to be made.
use Rattle.std.specs.Prelude.{◌≡◌, ◌≢◌, ℕ, ◌<◌, true, false}
use Rattle.handler_trait.specs.Handling.{Meaning}
use Rattle.net_semantics.specs.Worlds.{World}
use Rattle.vst_base.specs.Nets.{has_kind}
use Rattle.vst_base.specs.declared.net.Net.{Net}
use Rattle.vst_base.specs.declared.net.Net.TheVariants as net
use Rattle.vst_base.specs.declared.step.StepKind.TheVariants as kind

-- there is a node, whose timer fires; and on a network that starts no node again each node is up
pub record HasSteps {S K I O M : Type 0} (n : Net) (m : Meaning S I O M) (w : World S K M) : Type 0 where
  pub ticks : n ≢ net.One
  pub some : 0 < m.nodes
  pub up : has_kind n kind.Reboot ≡ false → (k : ℕ) → k < m.nodes → w.is_up k ≡ true
