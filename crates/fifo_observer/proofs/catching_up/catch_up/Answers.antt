use Rattle.std.proofs.Common.{arith, sym}
use Rattle.xform_stack.specs.Systems.{world_of}
use Rattle.fifo_observer.proofs.Following.{caught-all, caught-one}
use Rattle.fifo_observer.proofs.catching_up.catch_up.Goals as goal

pub loop-k-preserved : goal.loop-k-preserved
loop-k-preserved g c = record {
  few = omega (arith, c.loop-k.invariant.few, c.in_ok-push.ensures.len);
  follows = λ ss es more at is f.
      caught-one (world_of (g.W.Network.system c.args.network.now) ss).packets _ c.loop-k.k _ c.loop-k.channels c.push.new.self is (sym (c.in-Some.ensures.ends ss at)) c.in_ok-push.ensures.follows
      (c.loop-k.invariant.follows ss es more at is f);
}

pub returns : goal.returns
returns g c = λ ss es more at is f.
    caught-all (world_of (g.W.Network.system c.args.network.now) ss).packets _ c.loop-k.k c.loop-k.channels is (omega (arith, c.loop-k-test.false, c.sent-k-end.ensures ss at))
    (c.loop-k.invariant.follows ss es more at is f)
