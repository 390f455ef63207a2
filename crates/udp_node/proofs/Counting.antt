-- Counts of faults, call after call.
use Rattle.std.proofs.Common.{◌≡◌, arith, refl, sym, subst, ◌∙◌, Result, Ok, Err, IsErrAnd}
use Rattle.outside.specs.Counting.{Rose}
use Rattle.node_datagrams.specs.Saying.{SendsOnly}
use Rattle.node_device.specs.Faults.{Faults}
use Rattle.udp_node.specs.Causes.{CountsRun, RanFault}
use Rattle.udp_node.specs.declared.fault.NodeFault.{NodeFault}
use Rattle.udp_node.specs.declared.fault.NodeFault.TheVariants as fault

pub sends_none : (a : Faults) → SendsOnly a a
sends_none a = record { begin = refl; receive = refl; store = refl; send = omega arith }

pub sends_as : (a b : Faults) → b ≡ a → SendsOnly a b
sends_as a b e = subst (λ x. SendsOnly a x) (sym e) (sends_none a)

pub sends_twice : (a b c : Faults) → SendsOnly a b → SendsOnly b c → SendsOnly a c
sends_twice a b c x y = record {
  begin = y.begin ∙ x.begin;
  receive = y.receive ∙ x.receive;
  store = y.store ∙ x.store;
  send = omega (arith, x.send, y.send);
}

-- a fault after sends
pub ran_after : (a b c : Faults) (e : NodeFault) → SendsOnly a b → RanFault b c e → RanFault a c e
ran_after a b c fault.Receive x y = record {
  begin = y.begin ∙ x.begin;
  receive = subst (λ n. Rose n c.receive) x.receive y.receive;
  store = y.store ∙ x.store;
  send = omega (arith, x.send, y.send);
}
ran_after a b c fault.Store x y = record {
  begin = y.begin ∙ x.begin;
  receive = y.receive ∙ x.receive;
  store = subst (λ n. Rose n c.store) x.store y.store;
  send = omega (arith, x.send, y.send);
}
ran_after a b c (fault.Refused why) x y = sends_twice a b c x y
ran_after a b c fault.Memory x y = sends_twice a b c x y

pub ran_err : {T : Type 0} (a c : Faults) (r : Result T NodeFault) (e : NodeFault) → IsErrAnd r (λ y. y ≡ e) → RanFault a c e → CountsRun a c r
ran_err a c (Ok x) e is p = absurd is
ran_err a c (Err y) e is p = subst (λ z. RanFault a c z) (sym is) p
