use Rattle.std.proofs.Common.{length}
use Rattle.raft_commit.specs.Peers.{matched_of}
use Rattle.raft_commit.proofs.Advancing.{advance_is_allowed, advance_is_greatest, ends, ends_back, falls, starts}
use Rattle.raft_commit.proofs.commit.advance.Goals.{then-loop-index-test+else-term, else-loop-index-test}
use Rattle.raft_commit.proofs.commit.advance.Goals as goal

pub loop-index-init : goal.loop-index-init
loop-index-init g c =
    starts (length c.args.peers.now) c.args.me (matched_of c.args.peers.now) c.args.entries.now c.args.term c.args.commit c.held-index.result
    c.held-index.ensures.in_the_log c.held-index.ensures.most c.held-index.ensures.greatest

pub loop-index-preserved : goal.loop-index-preserved
loop-index-preserved g c =
    falls (length c.args.peers.now) c.args.me (matched_of c.args.peers.now) c.args.entries.now c.args.term c.args.commit c.loop-index.index c.term.result
    c.index-entries-index.result c.loop-index-test.true c.index-entries-index.is c.term.ensures.value c.if-term.true c.loop-index.invariant

pub returns-clause-commit : goal.returns-clause-commit
returns-clause-commit g c = elim c.loop-index-test.branch [
  | then-loop-index-test+else-term w ↦
      ends (length c.args.peers.now) c.args.me (matched_of c.args.peers.now) c.args.entries.now c.args.term c.args.commit c.loop-index.index w.term.result
      c.max.result w.index-entries-index.result w.loop-index-test.true w.index-entries-index.is w.term.ensures.value w.if-term.false c.max.ensures
      c.loop-index.invariant
  | else-loop-index-test w ↦
      ends_back (length c.args.peers.now) c.args.me (matched_of c.args.peers.now) c.args.entries.now c.args.term c.args.commit c.loop-index.index
      c.max.result w.loop-index-test.false c.max.ensures c.loop-index.invariant
]

pub returns-clause-allowed : goal.returns-clause-allowed
returns-clause-allowed g c =
    advance_is_allowed (length c.args.peers.now) c.args.me (matched_of c.args.peers.now) c.args.entries.now c.args.term c.args.commit (length c.args.entries.now)
    c.max.result (returns-clause-commit g c)

pub returns-clause-greatest : goal.returns-clause-greatest
returns-clause-greatest g c =
    advance_is_greatest (length c.args.peers.now) c.args.me (matched_of c.args.peers.now) c.args.entries.now c.args.term c.args.commit (length c.args.entries.now)
    c.max.result (returns-clause-commit g c)
