-- Why a node ended, and what its calls do to the counts of faults.
use Rattle.std.specs.Prelude.{◌≡◌, ◌≤◌, Result, Ok, Err}
use Rattle.outside.specs.Counting.{Rose}
use Rattle.node_datagrams.specs.Saying.{SendsOnly}
use Rattle.node_device.specs.Faults.{Faults, CountsStore}
use Rattle.node_state.specs.declared.faults.StateFault.{StateFault}
use Rattle.node_state.specs.declared.faults.StateFault.TheVariants as state
use Rattle.node_state.specs.declared.opening.OpenFault.{OpenFault}
use Rattle.node_state.specs.declared.opening.OpenFault.TheVariants as opening
use Rattle.udp_node.specs.declared.fault.NodeFault.{NodeFault}
use Rattle.udp_node.specs.declared.fault.NodeFault.TheVariants as fault

abbrev pub fault_of_state : StateFault → NodeFault
fault_of_state state.Store = fault.Store
fault_of_state state.Memory = fault.Memory

abbrev pub fault_of_opening : OpenFault → NodeFault
fault_of_opening opening.Store = fault.Store
fault_of_opening opening.Memory = fault.Memory
fault_of_opening (opening.Refused why) = fault.Refused why

-- a receive fault was counted, and nothing else
abbrev pub CountsReceive : Faults → Faults → Type 0
CountsReceive old new = Rose old.receive new.receive × (new ≡ record old { receive = new.receive })

-- A fault of a receive or of the areas was counted, and nothing else; no other answer goes with a fault.
abbrev pub CountsFault : Faults → Faults → NodeFault → Type 0
CountsFault old new fault.Receive = CountsReceive old new
CountsFault old new fault.Store = CountsStore old new
CountsFault old new (fault.Refused why) = new ≡ old
CountsFault old new fault.Memory = new ≡ old

abbrev pub Counts : {T : Type 0} → Faults → Faults → Result T NodeFault → Type 0
Counts old new (Ok x) = new ≡ old
Counts old new (Err e) = CountsFault old new e

-- The same of calls that sent too, where any send may have failed.
pub record RoseReceive (old new : Faults) : Type 0 where
  pub begin : new.begin ≡ old.begin
  pub receive : Rose old.receive new.receive
  pub store : new.store ≡ old.store
  pub send : old.send ≤ new.send

pub record RoseStore (old new : Faults) : Type 0 where
  pub begin : new.begin ≡ old.begin
  pub receive : new.receive ≡ old.receive
  pub store : Rose old.store new.store
  pub send : old.send ≤ new.send

abbrev pub RanFault : Faults → Faults → NodeFault → Type 0
RanFault old new fault.Receive = RoseReceive old new
RanFault old new fault.Store = RoseStore old new
RanFault old new (fault.Refused why) = SendsOnly old new
RanFault old new fault.Memory = SendsOnly old new

abbrev pub CountsRun : {T : Type 0} → Faults → Faults → Result T NodeFault → Type 0
CountsRun old new (Ok x) = SendsOnly old new
CountsRun old new (Err e) = RanFault old new e

-- no turn is refused
abbrev pub IsOfATurn : NodeFault → Type 0
IsOfATurn (fault.Refused why) = ⊥
IsOfATurn fault = Unit {0}
