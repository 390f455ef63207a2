use Rattle.std.proofs.Common.{◌≡◌, ◌+◌, [], ◌∷◌, ◌++◌, ap, ◌∙◌, sym, refl, take, length}
use Rattle.std.proofs.lemmas.List.{take_more}
use Rattle.vst_base.specs.declared.step.Item.{Item}
use Rattle.vst_base.specs.declared.step.Item.TheVariants as item
use Rattle.linearizability.specs.Linearizable.{Seen}
use Rattle.claim_verdicts.proofs.FirstInputs.{length-marks, marks-input, marks-output, reaches-input, reaches-nothing, reaches-output, unseen}
use Rattle.claim_verdicts.proofs.marking.mark_order.Goals as goal
use Rattle.claim_verdicts.proofs.marking.mark_order.Goals.{in-Input+in_ok-mark_input-in-Input, in-Output}

pub loop-item-init : goal.loop-item-init
loop-item-init g c =
    let t = g.A.AppText.input_text in
    let nothing : Seen g.row.A-Input.Denot g.row.O.Denot = [] in
    record {
      marks = c.in_ok-marks.ensures.items_if_clones_equal (λ y e. e) ∙ unseen t nothing c.args.order.now refl;
      reaches = reaches-nothing t c.args.order.now nothing refl;
    }

pub mark_input-requires-clause-marks : goal.mark_input-requires-clause-marks
mark_input-requires-clause-marks g c = ap (λ ms. length ms) c.loop-item.invariant.marks ∙ length-marks g.A.AppText.input_text (take c.loop-item.item-index c.args.trace.now) c.args.order.now

pub loop-item-preserved : goal.loop-item-preserved
loop-item-preserved g c =
    let t = g.A.AppText.input_text in
    let order = c.args.order.now in
    let trace = c.args.trace.now in
    let i = c.loop-item.item-index in
    let inv = c.loop-item.invariant in
    let seen : Seen g.row.A-Input.Denot g.row.O.Denot = take i trace in
    let more : (x : Item _ _) → c.item-item.result ≡ x → take (i + 1) trace ≡ seen ++ x ∷ [] = λ x is. take_more trace i c.item-item.result c.loop-item-test.true ∙ ap (λ y. seen ++ y ∷ []) (sym c.item-item.is ∙ is) in
    elim c.match-item.branch [
      | in-Input+in_ok-mark_input-in-Input w ↦
          let grown = more (item.Input w.in-Input.field-0 w.in-Input.input) w.in-Input.is in
          rw (w.marks-is, w.most-is, grown) (record {
            marks = marks-input t c.args.names.now order seen w.in-Input.field-0 w.in-Input.input c.loop-item.most c.loop-item.marks.items w.mark_input.new.marks.items c.requires.names c.requires.distinct inv.marks inv.reaches w.in_ok-mark_input-in-Input.ensures;
            reaches = reaches-input t order seen w.in-Input.field-0 w.in-Input.input c.loop-item.most inv.reaches;
          })
      | in-Output w ↦
          let grown = more (item.Output w.in-Output.field-0 w.in-Output.output) w.in-Output.is in
          rw (w.marks-is, w.most-is, grown, w.max-most.ensures, w.reach_of.ensures) (record {
            marks = inv.marks ∙ marks-output t seen w.in-Output.field-0 w.in-Output.output order;
            reaches = reaches-output t c.args.names.now order seen w.in-Output.field-0 w.in-Output.output c.loop-item.most c.requires.names c.requires.distinct inv.reaches;
          })
    ]
