use Rattle.std.proofs.Common.{length, sym, ◌∙◌}
use Rattle.raft_commit.specs.Peers.{matched_of}
use Rattle.raft_commit.proofs.Holding.{best_of_none, best_with, best_without, few_past, told_at}
use Rattle.raft_commit.proofs.commit.held.Goals.{then-is_held-2, else-is_held-2}
use Rattle.raft_commit.proofs.commit.held.Goals as goal

pub loop-peer-init : goal.loop-peer-init
loop-peer-init c = best_of_none (length c.args.peers.now) c.args.me (matched_of c.args.peers.now) c.args.len c.requires

pub loop-peer-preserved : goal.loop-peer-preserved
loop-peer-preserved c =
    let told = told_at c.args.peers.now c.loop-peer.peer-index c.peer-item.result c.matched-index.result c.loop-peer-test.true c.peer-item.is c.matched-index.ensures.value in
    elim c.if-is_held-2.branch [
      | then-is_held-2 w ↦
          best_with (length c.args.peers.now) c.args.me (matched_of c.args.peers.now) c.args.len c.loop-peer.peer-index c.loop-peer.most c.matched-index.result
          c.if-is_held-2.most (sym c.is_held.ensures ∙ c.if-is_held.false) told (sym c.is_held-in-loop-peer.ensures ∙ w.if-is_held-2.true) (w.most-is ∙ w.max-most.ensures) c.loop-peer.invariant
      | else-is_held-2 w ↦
          best_without (length c.args.peers.now) c.args.me (matched_of c.args.peers.now) c.args.len c.loop-peer.peer-index c.loop-peer.most c.matched-index.result
          c.if-is_held-2.most told (sym c.is_held-in-loop-peer.ensures ∙ w.if-is_held-2.false) w.most-is c.loop-peer.invariant
    ]

pub returns-clause-greatest : goal.returns-clause-greatest
returns-clause-greatest c =
    few_past (length c.args.peers.now) c.args.me (matched_of c.args.peers.now) c.args.len c.loop-peer.peer-index c.loop-peer.most
    (sym c.is_held.ensures ∙ c.if-is_held.false) c.loop-peer-test.false c.loop-peer.invariant
