-- What a node is configured with, and when it is to act.
use Rattle.std.specs.Prelude.{ℕ, ◌+◌, ◌-◌, ◌^◌, nat_le, min, List, Bool, if◌then◌else◌}
use Rattle.outside.specs.declared.device.Address.{Address}
use Rattle.vst_base.specs.declared.stack.StackId.{StackId}
use Rattle.node_run.specs.declared.due.Due.{Due}
use Rattle.node_run.specs.declared.due.Due.TheVariants.{Timeout, Wait}

-- the stack, the node, by its number from 0, the cluster's name, the addresses of its nodes and of its client slots, and the periods
-- of a leader and of any other node, in milliseconds
pub record Settings : Type 0 where
  pub stack : StackId
  pub me : ℕ
  pub name : List ℕ
  pub peers : List Address
  pub clients : List Address
  pub heartbeat : ℕ
  pub election : ℕ

-- a moment so many milliseconds after another; times stop at the greatest of 64 bits
abbrev pub later : ℕ → ℕ → ℕ
later time ms = min (time + ms) (2 ^ 64 - 1)

-- A node waits at most a minute at a time.
abbrev pub due : ℕ → ℕ → Due
due deadline now = if nat_le deadline now then Timeout else Wait (min (deadline - now) 60000)

-- how long the node may then be without an event, by whether it leads
abbrev pub period : Settings → Bool → ℕ
period settings leads = if leads then settings.heartbeat else settings.election
