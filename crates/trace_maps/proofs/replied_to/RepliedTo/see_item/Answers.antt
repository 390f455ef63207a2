use Rattle.std.proofs.Common.{ap, sym, ◌∙◌, ◌++◌, ◌∷◌, [], refl}
use Rattle.vst_base.specs.declared.step.Step.TheVariants as step
use Rattle.trace_maps.proofs.Sees.{sees-input, sees-input_elsewhere, sees-reply, sees-output_elsewhere, sees-redirect}
use Rattle.trace_maps.proofs.replied_to.RepliedTo.see_item.Goals as goal

pub returns-in_ok-push-in-Input : goal.returns-in_ok-push-in-Input
returns-in_ok-push-in-Input g c = λ items had. rw c.in-Input.is
    (sees-input _ _ items (rw (← c.self.view_is) at had) c.in-Input.node c.in-Input.input (sym c.index.ensures ∙ c.if-index-eq0.true)
    (c.in_ok-push-in-Input.ensures.added ∙ ap (λ x. c.self.inside.inputs ++ step.In 0 x ∷ []) c.in_ok-copy-in-Input.ensures) refl)

pub returns-else-index-eq0 : goal.returns-else-index-eq0
returns-else-index-eq0 g c = λ items had. rw c.in-Input.is
    (sees-input_elsewhere _ _ items had c.in-Input.node c.in-Input.input (λ e. c.if-index-eq0.false (c.index.ensures ∙ e)) refl)

pub returns-then-index-eq0-2 : goal.returns-then-index-eq0-2
returns-then-index-eq0-2 g c = λ items had. rw c.in-Output-default-Reply.is
    (sees-reply _ _ items (rw (← c.self.view_is) at had) c.in-Output-default-Reply.node c.in-Output-default-Reply.field-1 c.in-Output-default-Reply.field-1-0 (rw c.in-Output-default-Reply.is at c.in-Output-default-Reply.field-1-is)
    (sym c.index-in-Output-default-Reply.ensures ∙ c.if-index-eq0-2.true) refl
    c.saturating_add-self-inside.ensures)

pub returns-else-index-eq0-2 : goal.returns-else-index-eq0-2
returns-else-index-eq0-2 g c = λ items had. rw c.in-Output-default-Reply.is
    (sees-output_elsewhere _ _ items had c.in-Output-default-Reply.node c.in-Output-default-Reply.field-1
    (λ e. c.if-index-eq0-2.false (c.index-in-Output-default-Reply.ensures ∙ e)) refl)

pub returns-in-Output-default-Redirect : goal.returns-in-Output-default-Redirect
returns-in-Output-default-Redirect g c = λ items had. rw c.in-Output-default-Redirect.is
    (sees-redirect _ _ items had c.in-Output-default-Redirect.field-0 c.in-Output-default-Redirect.field-1 (rw c.in-Output-default-Redirect.is at c.in-Output-default-Redirect.field-1-is) refl)
