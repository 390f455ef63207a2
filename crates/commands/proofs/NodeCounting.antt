-- What a node's run comes to leaves no count of its device lower.
use Rattle.std.specs.Prelude.{◌≡◌, ℕ, Result, Ok, Err}
use Rattle.std.proofs.Common.{ap, arith}
use Rattle.command_line.specs.AskedNodes.{NodeWordsView}
use Rattle.node_datagrams.specs.Saying.{SendsOnly}
use Rattle.node_device.specs.Faults.{Faults}
use Rattle.outside.specs.Counting.{Rose}
use Rattle.commands.specs.Seen.{SourceSeen}
use Rattle.udp_node.specs.Causes.{RanFault}
use Rattle.udp_node.specs.declared.fault.NodeFault.{NodeFault}
use Rattle.udp_node.specs.declared.fault.NodeFault.TheVariants as fault
use Rattle.commands.specs.NodeComing.{Comes}
use Rattle.commands.specs.NodeSeen.{DeviceSeen, Keeps, KeepsAllCounts, NodeRun}
use Rattle.commands.specs.NodeTelling.{Ends}
use Rattle.commands.specs.declared.trouble.Trouble.{Trouble}
use Rattle.commands.specs.declared.trouble.Trouble.TheVariants as trouble

record KeepsEach (old new : Faults) : Type 0 where
  begin : Keeps old.begin new.begin
  receive : Keeps old.receive new.receive
  store : Keeps old.store new.store
  send : Keeps old.send new.send

kept : (old new : ℕ) → new ≡ old → Keeps old new
kept old new same = omega (arith, same)

risen : (old new : ℕ) → Rose old new → Keeps old new
risen old new rose = omega (arith, rose)

same_counts : (old new : Faults) → new ≡ old → KeepsEach old new
same_counts old new same = record {
  begin = kept old.begin new.begin (ap (λ (f : Faults). f.begin) same);
  receive = kept old.receive new.receive (ap (λ (f : Faults). f.receive) same);
  store = kept old.store new.store (ap (λ (f : Faults). f.store) same);
  send = kept old.send new.send (ap (λ (f : Faults). f.send) same);
}

same_device : (old new : DeviceSeen) → new ≡ old → KeepsEach old.faults new.faults
same_device old new same = same_counts old.faults new.faults (ap (λ (d : DeviceSeen). d.faults) same)

sends_only : (old new : Faults) → SendsOnly old new → KeepsEach old new
sends_only old new x = record {
  begin = kept old.begin new.begin x.begin;
  receive = kept old.receive new.receive x.receive;
  store = kept old.store new.store x.store;
  send = omega (arith, x.send);
}

by_a_fault : (old new : Faults) (e : NodeFault) → RanFault old new e → KeepsEach old new
by_a_fault old new fault.Receive x = record {
  begin = kept old.begin new.begin x.begin;
  receive = risen old.receive new.receive x.receive;
  store = kept old.store new.store x.store;
  send = omega (arith, x.send);
}
by_a_fault old new fault.Store x = record {
  begin = kept old.begin new.begin x.begin;
  receive = kept old.receive new.receive x.receive;
  store = risen old.store new.store x.store;
  send = omega (arith, x.send);
}
by_a_fault old new (fault.Refused why) x = sends_only old new x
by_a_fault old new fault.Memory x = sends_only old new x

by_no_beginning : (old new : Faults) → Rose old.begin new.begin → new ≡ record old { begin = new.begin } → KeepsEach old new
by_no_beginning old new rose rest = record {
  begin = risen old.begin new.begin rose;
  receive = kept old.receive new.receive (ap (λ (f : Faults). f.receive) rest);
  store = kept old.store new.store (ap (λ (f : Faults). f.store) rest);
  send = kept old.send new.send (ap (λ (f : Faults). f.send) rest);
}

module _ (w : NodeWordsView) (input input' : SourceSeen) (device device' : DeviceSeen) where
  comes_keeping : (came : Result (Unit {0}) Trouble) → Comes w input input' device device' came → KeepsEach device.faults device'.faults
  comes_keeping (Ok x) comes = sends_only device.faults device'.faults comes.counts
  comes_keeping (Err trouble.Read) comes = same_device device device' comes.device_stays
  comes_keeping (Err (trouble.Config key)) comes = same_device device device' comes.device_stays
  comes_keeping (Err trouble.Begin) comes = by_no_beginning device.faults device'.faults comes.counts.0 comes.counts.1
  comes_keeping (Err (trouble.Ended e)) comes = by_a_fault device.faults device'.faults e comes.counts
  comes_keeping (Err trouble.Memory) comes = same_device device device' comes.device_stays

pub keeps_all : (w : NodeWordsView) (r : NodeRun) (result : ℕ) → Ends w r result → KeepsAllCounts r
keeps_all w r result e =
    let device = comes_keeping w r.streams.before.input r.streams.after.input r.before r.after e.came e.comes in
    record { streams = e.counts; begin = device.begin; receive = device.receive; store = device.store; send = device.send }
