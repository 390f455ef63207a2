use Rattle.std.proofs.Common.{◌∙◌, arith, sym}
use Rattle.std.proofs.lemmas.Bool.{false≢true}
use Rattle.raft_log.proofs.Accepting.{answers_below, answers_had, answers_taken, found_in, no_conflict}
use Rattle.raft_log.proofs.log.Log.accept.Goals.{then-same-entries+else-kept-commit+in_ok-replace_from, else-same-entries}
use Rattle.raft_log.proofs.log.Log.accept.Goals as goal

pub returns-then-kept-commit-clause-answer : goal.returns-then-kept-commit-clause-answer
returns-then-kept-commit-clause-answer g c =
    let found = found_in c.args.self.now c.entries.result.now c.args.prev c.args.entries.now c.agreed-same.result c.entries.ensures.entries c.agreed-same.ensures.agreed in
    (answers_below c.args.self.now c.args.commit c.args.prev c.args.entries.now c.agreed-same.result c.requires.commit found c.if-same-entries.true c.if-kept-commit.true).answers

pub returns-then-kept-commit-clause-log : goal.returns-then-kept-commit-clause-log
returns-then-kept-commit-clause-log g c =
    let found = found_in c.args.self.now c.entries.result.now c.args.prev c.args.entries.now c.agreed-same.result c.entries.ensures.entries c.agreed-same.ensures.agreed in
    (answers_below c.args.self.now c.args.commit c.args.prev c.args.entries.now c.agreed-same.result c.requires.commit found c.if-same-entries.true c.if-kept-commit.true).becomes

pub returns-in_err-replace_from-clause-refuses : goal.returns-in_err-replace_from-clause-refuses
returns-in_err-replace_from-clause-refuses g c = λ there.
    let found = found_in c.args.self.now c.entries.result.now c.args.prev c.args.entries.now c.agreed-same.result c.entries.ensures.entries c.agreed-same.ensures.agreed in
    absurd (false≢true (sym (no_conflict c.args.self.now c.args.commit c.args.prev c.args.entries.now c.agreed-same.result c.requires.commit found c.if-kept-commit.false) ∙ there))

pub returns-in_err-replace_from-clause-had : goal.returns-in_err-replace_from-clause-had
returns-in_err-replace_from-clause-had g c = λ all.
    let found = found_in c.args.self.now c.entries.result.now c.args.prev c.args.entries.now c.agreed-same.result c.entries.ensures.entries c.agreed-same.ensures.agreed in
    absurd (omega (arith, found, all, c.if-same-entries.true))

pub returns-clause-answer : goal.returns-clause-answer
returns-clause-answer g c =
    let found = found_in c.args.self.now c.entries.result.now c.args.prev c.args.entries.now c.agreed-same.result c.entries.ensures.entries c.agreed-same.ensures.agreed in
    elim c.if-same-entries.branch [
      | then-same-entries+else-kept-commit+in_ok-replace_from w ↦ (answers_taken c.args.self.now c.args.commit c.args.prev c.args.entries.now c.agreed-same.result w.replace_from.new.self c.requires.commit found w.if-same-entries.true w.if-kept-commit.false w.in_ok-replace_from.ensures.ok).answers
      | else-same-entries w ↦ (answers_had c.args.self.now c.args.commit c.args.prev c.args.entries.now c.agreed-same.result found w.if-same-entries.false).answers
    ]

pub returns-clause-log : goal.returns-clause-log
returns-clause-log g c =
    let found = found_in c.args.self.now c.entries.result.now c.args.prev c.args.entries.now c.agreed-same.result c.entries.ensures.entries c.agreed-same.ensures.agreed in
    elim c.if-same-entries.branch [
      | then-same-entries+else-kept-commit+in_ok-replace_from w ↦ w.self-is ∙ (answers_taken c.args.self.now c.args.commit c.args.prev c.args.entries.now c.agreed-same.result w.replace_from.new.self c.requires.commit found w.if-same-entries.true w.if-kept-commit.false w.in_ok-replace_from.ensures.ok).becomes
      | else-same-entries w ↦ w.self-is ∙ (answers_had c.args.self.now c.args.commit c.args.prev c.args.entries.now c.agreed-same.result found w.if-same-entries.false).becomes
    ]
