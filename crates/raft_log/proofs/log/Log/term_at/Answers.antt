use Rattle.std.proofs.Common.{◌≡◌, ◌-◌, ◌∙◌, arith}
use Rattle.raft_log.proofs.Terms.{told_at, told_at_zero}
use Rattle.raft_log.proofs.log.Log.term_at.Goals as goal

pub returns-then-index-eq0-clause-term : goal.returns-then-index-eq0-clause-term
returns-then-index-eq0-clause-term g c = told_at_zero c.args.self.now c.args.index c.if-index-eq0.true

pub returns-clause-term : goal.returns-clause-term
returns-clause-term g c =
    let same : c.deref.result.now ≡ c.args.self.now = c.deref.ensures.value ∙ c.self.view_is in
    let found = c.in_ok-entry.ensures.lookup in
    rw (c.term.ensures.value) (told_at c.args.self.now c.args.index (c.args.index - 1) c.in_ok-entry.entry.now (omega (arith, c.if-index-eq0.false)) (rw same at found.3.0) (rw same at found.1))
