use Rattle.std.proofs.Common.{◌++◌, sym, ap, ◌∙◌, append_assoc}
use Rattle.std.proofs.lemmas.Result.{on_ok_weaker}
use Rattle.app_text.proofs.Printed.{joined-spaced, spaced}
use Rattle.app_text.proofs.printing.push_all.Goals as goal

pub returns-clause-ok : goal.returns-clause-ok
returns-clause-ok c =
    let old = c.args.out.now.items in
    let args = c.args.args.now in
    on_ok_weaker c.push_args.result
    (λ added. added ∙ ap (λ front. front ++ spaced args) c.in_ok-extend_from_slice.ensures.items ∙ append_assoc old c.args.first.now (spaced args) ∙ ap (λ text. old ++ text) (sym (joined-spaced c.args.first.now args)))
    c.push_args.ensures.ok
