-- What calls on a node's state need, and what they do to the counts of faults and of wants.
use Rattle.std.specs.Prelude.{◌≡◌, ℕ, ◌<◌, Result, Ok, Err, ◌⊎◌}
use Rattle.outside.specs.Counting.{Rose}
use Rattle.raft_types.specs.Messages.{IsClusterSize}
use Rattle.vst_base.specs.declared.stack.StackId.{StackId}
use Rattle.node_body.specs.declared.who.Who.{Who}
use Rattle.node_device.specs.Faults.{Faults, CountsStore}
use Rattle.node_device.specs.declared.device.Stored.{Stored}
use Rattle.node_device.specs.declared.device.Stored.TheVariants as stored
use Rattle.node_state.specs.declared.faults.StateFault.{StateFault}
use Rattle.node_state.specs.declared.faults.StateFault.TheVariants as fault

-- a node of a cluster of this stack
pub record IsNodeOf (s : StackId) (who : Who) : Type 0 where
  pub stack : who.stack ≡ s
  pub nodes : IsClusterSize who.nodes
  pub me : who.me < who.nodes

-- A store call that failed was counted, and nothing else; no other answer goes with a fault.
abbrev pub CountsFault : Faults → Faults → StateFault → Type 0
CountsFault old new fault.Store = CountsStore old new
CountsFault old new fault.Memory = new ≡ old

abbrev pub StateCounts : {T : Type 0} → Faults → Faults → Result T StateFault → Type 0
StateCounts old new (Ok x) = new ≡ old
StateCounts old new (Err e) = CountsFault old new e

abbrev pub done_of : Stored → Result Unit StateFault
done_of stored.Done = Ok tt
done_of stored.Failed = Err fault.Store
done_of stored.Memory = Err fault.Memory

-- A call that grows nothing itself answers want of memory only for its device, which counted it. No other answer goes with a want.
abbrev pub DeviceWants : {T : Type 0} → ℕ → ℕ → Result T StateFault → Type 0
DeviceWants old new (Ok x) = new ≡ old
DeviceWants old new (Err fault.Store) = new ≡ old
DeviceWants old new (Err fault.Memory) = Rose old new

-- A call that grows first answers it for its device, or for a growth: then its device wanted none, and this stands.
abbrev pub GrowsFirst : {T : Type 0} → Type 0 → ℕ → ℕ → Result T StateFault → Type 0
GrowsFirst P old new (Ok x) = new ≡ old
GrowsFirst P old new (Err fault.Store) = new ≡ old
GrowsFirst P old new (Err fault.Memory) = Rose old new ⊎ ((new ≡ old) × P)
