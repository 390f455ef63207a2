use Rattle.std.proofs.Common.{◌≡◌, ◌+◌, ap, arith, sym, ◌∙◌}
use Rattle.std.specs.Prelude.{◌&&◌, ◌==◌}
use Rattle.xform_stack.specs.Systems.{world_of}
use Rattle.retry_observer.proofs.Catching.{caught-all, caught-one}
use Rattle.retry_observer.proofs.catching_up.catch_up.Goals.{then-known, else-known}
use Rattle.retry_observer.proofs.catching_up.catch_up.Goals as goal

pub loop-k-preserved : goal.loop-k-preserved
loop-k-preserved g c =
    let known_is : c.if-known.is_known ≡ (c.args.known && (c.loop-k.k + 1 == c.sent-sent.result)) = elim c.if-known.branch [
      | then-known w ↦ w.is_known-is ∙ ap (λ b. b && (c.loop-k.k + 1 == c.sent-sent.result)) (sym w.if-known.true)
      | else-known w ↦ w.is_known-is ∙ (w.if-known.false ∙ ap (λ b. b && (c.loop-k.k + 1 == c.sent-sent.result)) (sym w.if-known.false))
    ] in
    record {
      few = omega (arith, c.loop-k.invariant.few, c.in_ok-add.ensures.len);
      start = omega (arith, c.loop-k.invariant.start);
      follows = λ ss bs more at is come f.
          caught-one (world_of (g.W.Network.system c.args.network.now) ss).packets bs more c.loop-k.k c.sent-sent.result c.in-Some.ends.0 c.in-Some.ends.1 c.args.known c.if-known.is_known c.args.carried c.loop-k.places c.add.new.places
          is (c.sent-sent.ensures ss at) (sym (c.in-Some.ensures.ends ss at)) known_is c.args.places.now f c.loop-k.invariant.start c.in_ok-add.ensures.follows come
          (c.loop-k.invariant.follows ss bs more at is come f);
    }

pub returns : goal.returns
returns g c = λ ss bs more at is come f.
    caught-all (world_of (g.W.Network.system c.args.network.now) ss).packets _ c.loop-k.k c.loop-k.places is (omega (arith, c.loop-k-test.false, c.sent-sent.ensures ss at))
    (c.loop-k.invariant.follows ss bs more at is come f)
