use mir.Val.{bool_byte}
use Rattle.std.proofs.Common.{ap, ◌∙◌, sym, length, take, arith}
use Rattle.net_semantics.specs.BelowPb.{outputs_at}
use Rattle.claim_verdicts.specs.Backups.{answers, asks, is_wrong_answer, is_wrong_after}
use Rattle.claim_verdicts.proofs.Neighbours.{answered-more, asked-more, at-most-one, byte-is}
use Rattle.claim_verdicts.proofs.WrongPlaces.{wrong-more}
use Rattle.claim_verdicts.proofs.answering.wrong_answer.Goals as goal

pub loop-place-preserved : goal.loop-place-preserved
loop-place-preserved g c =
    let t = g.A.AppText.output_text in
    let outs = c.args.outputs.now in
    let xs = c.args.trace.now in
    let i = c.loop-place.place in
    let x = c.index-trace-place.result in
    let inv = c.loop-place.invariant in
    let asked = c.from-asked.ensures ∙ (ap bool_byte c.asks.ensures ∙ byte-is (asks x)) in
    let answered = c.from-answered.ensures ∙ (ap bool_byte c.answers.ensures ∙ byte-is (answers x)) in
    record {
      first = inv.first ∙ wrong-more (is_wrong_answer t outs) xs i x c.loop-place-test.true c.index-trace-place.is
          (ap (λ n. is_wrong_after t outs n (length (outputs_at 0 (take i xs))) x) (sym inv.asked)
          ∙ (ap (λ n. is_wrong_after t outs c.loop-place.asked n x) (sym inv.answered) ∙ (sym c.in_ok-is_wrong_after.ensures ∙ c.if-branch.false)));
      asked = omega (arith, inv.asked, asked, asked-more xs i x c.loop-place-test.true c.index-trace-place.is);
      answered = omega (arith, inv.answered, answered, answered-more xs i x c.loop-place-test.true c.index-trace-place.is);
      few_asked = omega (arith, inv.few_asked, asked, at-most-one (asks x));
      few_answered = omega (arith, inv.few_answered, answered, at-most-one (answers x));
    }
