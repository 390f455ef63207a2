use Rattle.std.proofs.Common.{[], ap, ◌∙◌, sym, take, length, arith}
use Rattle.claim_verdicts.specs.Marks.{is_mark, is_untold, marks_of}
use Rattle.claim_verdicts.specs.Places.{first_wrong, place_of}
use Rattle.claim_verdicts.specs.declared.mark.Mark.TheVariants.{Late}
use Rattle.claim_verdicts.proofs.ClusterVerdicts.{Marked, few-marks, says-late, says-unexplained, says-unrequested, says-yes}
use Rattle.claim_verdicts.proofs.cluster.cluster_verdict.Goals as goal
use Rattle.claim_verdicts.proofs.cluster.cluster_verdict.Goals.{After-deref}

-- what is known once the order is marked
marked : (g : _) (c : After-deref g)
    → Marked g.A.AppText.input_text g.A.AppText.output_text (g.M.Machine.meaning c.args.machine.now) c.args.claim.now c.image-order.result.now c.trace.result.now c.in_ok-names.names c.deref.result.now
marked g c = record {
  order_is = c.image-order.ensures;
  seen_is = c.trace.ensures;
  front = c.in_ok-names.ensures;
  marks_are = c.deref.ensures.value ∙ (c.in_ok-marks.ensures ∙ ap (λ n. marks_of g.A.AppText.input_text c.trace.result.now (take n c.image-order.result.now)) c.len.ensures.len);
}

pub first_unrequested-requires : goal.first_unrequested-requires
first_unrequested-requires g c = few-marks g.A.AppText.input_text g.A.AppText.output_text (g.M.Machine.meaning c.args.machine.now) c.args.claim.now c.image-order.result.now c.trace.result.now c.in_ok-names.names c.deref.result.now (marked g c)

pub returns-in-Some : goal.returns-in-Some
returns-in-Some g c =
    let t = g.A.AppText.input_text in let u = g.A.AppText.output_text in let m = g.M.Machine.meaning c.args.machine.now in
    says-unrequested t u m c.args.claim.now c.image-order.result.now c.trace.result.now c.in_ok-names.names c.deref.result.now (marked g (goal.at.returns-in-Some g c).After-deref) c.in-Some.place c.image_line.result c.in-Some.ensures.first c.image_line.ensures

pub returns-in-Some-2 : goal.returns-in-Some-2
returns-in-Some-2 g c =
    let t = g.A.AppText.input_text in let u = g.A.AppText.output_text in let m = g.M.Machine.meaning c.args.machine.now in
    says-unexplained t u m c.args.claim.now c.image-order.result.now c.trace.result.now c.in_ok-names.names c.deref.result.now (marked g (goal.at.returns-in-Some-2 g c).After-deref)
    c.deref-2.result.now (c.deref-2.ensures.value ∙ c.in_ok-outputs.ensures) (sym c.first_unrequested.ensures.first ∙ c.in_default.is)
    c.in-Some-2.place c.item_line.result (sym c.in-Some-2.is ∙ (c.in_ok-place.ensures.first ∙ ap (λ s. first_wrong (λ before x after. is_untold u c.in_ok-names.names c.deref-2.result.now x) [] s) (c.trace-2.ensures ∙ sym c.trace.ensures))) c.item_line.ensures

pub image_line-requires-in-Some-first_mark-clause-within : goal.image_line-requires-in-Some-first_mark-clause-within
image_line-requires-in-Some-first_mark-clause-within g c =
    let few = few-marks g.A.AppText.input_text g.A.AppText.output_text (g.M.Machine.meaning c.args.machine.now) c.args.claim.now c.image-order.result.now c.trace.result.now c.in_ok-names.names c.deref.result.now
    (marked g (goal.at.image_line-requires-in-Some-first_mark-clause-within g c).After-deref) in
    omega (arith, c.in-Some-first_mark.ensures.within, ap (λ ms. length ms) (c.deref-3.ensures.value ∙ sym c.deref.ensures.value), few, ap (λ xs. length xs) c.image-order.ensures)

pub returns-in-Some-first_mark : goal.returns-in-Some-first_mark
returns-in-Some-first_mark g c =
    let t = g.A.AppText.input_text in let u = g.A.AppText.output_text in let m = g.M.Machine.meaning c.args.machine.now in
    says-late t u m c.args.claim.now c.image-order.result.now c.trace.result.now c.in_ok-names.names c.deref.result.now (marked g (goal.at.returns-in-Some-first_mark g c).After-deref)
    c.deref-2.result.now (c.deref-2.ensures.value ∙ c.in_ok-outputs.ensures) (sym c.first_unrequested.ensures.first ∙ c.in_default.is)
    (ap (λ s. first_wrong (λ before x after. is_untold u c.in_ok-names.names c.deref-2.result.now x) [] s) (c.trace.ensures ∙ sym c.trace-2.ensures) ∙ (sym c.in_ok-place.ensures.first ∙ c.in_default-2.is))
    c.in-Some-first_mark.place c.image_line-in-Some-first_mark.result (c.in-Some-first_mark.ensures.first ∙ ap (place_of (is_mark Late)) (c.deref-3.ensures.value ∙ sym c.deref.ensures.value)) c.image_line-in-Some-first_mark.ensures

pub returns : goal.returns
returns g c =
    let t = g.A.AppText.input_text in let u = g.A.AppText.output_text in let m = g.M.Machine.meaning c.args.machine.now in
    says-yes t u m c.args.claim.now c.image-order.result.now c.trace.result.now c.in_ok-names.names c.deref.result.now (marked g (goal.at.returns g c).After-deref)
    c.deref-2.result.now (c.deref-2.ensures.value ∙ c.in_ok-outputs.ensures) (sym c.first_unrequested.ensures.first ∙ c.in_default.is)
    (ap (λ s. first_wrong (λ before x after. is_untold u c.in_ok-names.names c.deref-2.result.now x) [] s) (c.trace.ensures ∙ sym c.trace-2.ensures) ∙ (sym c.in_ok-place.ensures.first ∙ c.in_default-2.is))
    (c.in-None.ensures.first ∙ ap (place_of (is_mark Late)) (c.deref-3.ensures.value ∙ sym c.deref.ensures.value))
