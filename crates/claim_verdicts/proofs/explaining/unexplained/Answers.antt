use Rattle.std.proofs.Common.{◌∙◌, sym}
use Rattle.claim_verdicts.specs.Marks.{is_untold}
use Rattle.claim_verdicts.proofs.WrongPlaces.{wrong-more}
use Rattle.claim_verdicts.proofs.explaining.unexplained.Goals as goal

pub loop-place-preserved : goal.loop-place-preserved
loop-place-preserved g c =
    c.loop-place.invariant
    ∙ wrong-more (λ before x after. is_untold g.A.AppText.output_text c.args.names.now c.args.outputs.now x)
    c.args.trace.now c.loop-place.place c.index-trace-place.result c.loop-place-test.true c.index-trace-place.is
    (sym c.in_ok-is_untold.ensures ∙ c.if-branch.false)
