use Rattle.std.specs.Prelude.{Bool, None, cond}
use Rattle.std.proofs.Common.{ap, ◌∙◌, subst, sym}
use Rattle.check_text.specs.declared.stage.Stage.TheVariants as stage
use Rattle.check_text.specs.Drafts.{Draft, TakesLine}
use Rattle.check_text.specs.Forms.{form_of}
use Rattle.check_text.proofs.Takings.{takes-below, takes-item}
use Rattle.check_text.proofs.taking.take_trace_line.Goals as goal

pub returns-in-Below-clause-takes : goal.returns-in-Below-clause-takes
returns-in-Below-clause-takes g c =
    let said = rw (c.in-Below.is, c.inputs.ensures) at c.in_ok-counted_says.ensures in
    let f = form_of c.args.nodes g.A.AppText.input_of g.A.AppText.output_of c.args.below g.G.ImageText.says in
    let d : Draft _ _ _ = c.args.draft.now in
    let made : Bool → Draft _ _ _ = λ b. record d { stage = cond b stage.Header stage.Image } in
    subst (λ (new : Draft _ _ _). TakesLine f d new c.args.line.now None) (sym (c.end_trace.ensures ∙ ap made c.has_header.ensures)) (takes-below f d c.args.line.now c.requires.stage c.requires.staged said)

pub returns-in_ok-add_item-in-IsItem-clause-takes : goal.returns-in_ok-add_item-in-IsItem-clause-takes
returns-in_ok-add_item-in-IsItem-clause-takes g c =
    let said = rw (c.in-IsItem.is, c.inputs.ensures) at c.in_ok-counted_says.ensures in
    let f = form_of c.args.nodes g.A.AppText.input_of g.A.AppText.output_of c.args.below g.G.ImageText.says in
    subst (λ (new : Draft _ _ _). TakesLine f c.args.draft.now new c.args.line.now None) (sym c.in_ok-add_item-in-IsItem.ensures) (takes-item f c.args.draft.now c.args.line.now c.requires.stage c.in-IsItem.item said)
