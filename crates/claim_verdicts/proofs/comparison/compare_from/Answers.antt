use Rattle.std.proofs.Common.{◌++◌, ap, ◌∙◌, arith, drop, map}
use Rattle.std.proofs.lemmas.List.{drop-map}
use Rattle.claim_verdicts.specs.Places.{first_difference}
use Rattle.claim_verdicts.proofs.Comparing.{lines-same}
use Rattle.claim_verdicts.proofs.comparison.compare_from.Goals as goal

pub loop-index-init : goal.loop-index-init
loop-index-init g c =
    let text = g.P.Printed.text in
    let n = c.args.place in
    let rest = drop n c.args.claimed.now in
    record {
      tells = λ more.
          ap (λ xs. first_difference n xs (map text c.args.came.now ++ more)) (drop-map text n c.args.claimed.now)
          ∙ ap (λ k. first_difference k (map text rest) (map text c.args.came.now ++ more)) (omega arith);
      within = omega arith;
    }

pub returns-clause-tells : goal.returns-clause-tells
returns-clause-tells g c = λ more.
    let inv = c.loop-index.invariant in
    let came = c.args.came.now in
    inv.tells more ∙ lines-same g.P.Printed.text c.args.place c.loop-index.index c.args.claimed.now came c.loop-index-test.false c.loop-index.auto.index-end more
