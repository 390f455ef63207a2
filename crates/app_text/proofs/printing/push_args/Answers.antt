use Rattle.std.proofs.Common.{rules, subst, take}
use Rattle.app_text.proofs.Printed.{spaced}
use Rattle.app_text.proofs.printing.push_args.Goals as goal
use Rattle.lists.specs.Prefixes.{IsPrefix, prefix_before}

pub returns-in_err-push_word-clause-err : goal.returns-in_err-push_word-clause-err
returns-in_err-push_word-clause-err c =
    let text = c.push_word.new.out.items in
    let before : IsPrefix c.args.out.now.items text = prefix_before c.args.out.now.items (spaced (take c.loop-word.word-index c.args.args.now)) text (subst (λ front. IsPrefix front text) c.loop-word.invariant c.in_err-push_word.ensures.err) in
    search rules
