use Rattle.std.proofs.Common.{◌∷◌, [], ◌++◌, ap, arith, ◌∙◌}
use Rattle.fifo_xform.specs.Peers.{peer_of, with_peer}
use Rattle.fifo_xform.proofs.Placing.{peer_of-reached, with_peer-reached}
use Rattle.fifo_xform.proofs.peers.reach.Goals as goal

pub loop-alloc-preserved : goal.loop-alloc-preserved
loop-alloc-preserved g c =
    let items = c.loop-alloc.peers.items in
    let node = c.args.node in
    let pushed = c.in_ok-push.ensures.items ∙ ap (λ p. items ++ p ∷ []) c.new.ensures in
    record {
      kept = ap (λ ps. peer_of ps node) pushed ∙ (peer_of-reached items node ∙ c.loop-alloc.invariant.kept);
      same = λ p. ap (λ ps. with_peer ps node p) pushed ∙ (with_peer-reached items node p (omega arith) ∙ c.loop-alloc.invariant.same p);
    }
