use Rattle.std.proofs.Common.{◌≡◌, List, length, ap, subst, ◌∙◌}
use Rattle.vst_base.specs.declared.step.Step.{Step}
use Rattle.xform_stack.specs.Systems.{world_of}
use Rattle.schedule_make.specs.Candidates.{candidates, chosen, drawn_kind, made_kind}
use Rattle.schedule_make.specs.Made.{step_of}
use Rattle.schedule_make.specs.Making.{HasMade, MakingView, step_after}
use Rattle.schedule_make.specs.declared.words.Words.{Words}
use Rattle.schedule_make.proofs.making.Making.next_step.Goals as goal

pub returns-clause-made : goal.returns-clause-made
returns-clause-made g c =
    let r = g.W.Network in
    subst (λ (v : MakingView g.row.W.Denot). (ss : List (Step g.row.H-Input.Denot)) → HasMade (r.system v.network) r.follows r.progress ss v
    → c.step_of.result ≡ step_after (r.system v.network) g.T.MakesInputs.inputs ss v.random) c.self.view_is
    (λ ss made.
    let sys = r.system c.self.inside.network in
    let w = world_of sys ss in
    let words = c.next_words-words.result in
    let inputs = g.T.MakesInputs.inputs in
    c.step_of.ensures
    ∙ ap (λ i. step_of i c.in_ok-kind.kind c.in_ok-kind.at) (c.in_ok-input.ensures ∙ ap (λ n. inputs words.input n) (c.taken.ensures ∙ made.taken.counted))
    ∙ ap (λ at. step_of (inputs words.input (length ss)) c.in_ok-kind.kind at) (c.in_ok-kind.ensures.chosen ss made.taken.followed made.flights made.turns)
    ∙ ap (λ k. step_of (inputs words.input (length ss)) k (chosen (candidates sys.net sys.meaning w k) words.number)) (c.in_ok-kind.ensures.kind ss made.taken.followed made.flights made.turns ∙ ap (λ k. made_kind sys.net sys.meaning w k) c.drawn_kind-drawn.ensures)
    ∙ ap (λ (x : Words). let k = made_kind sys.net sys.meaning w (drawn_kind x.kind) in step_of (inputs x.input (length ss)) k (chosen (candidates sys.net sys.meaning w k) x.number)) c.next_words-words.ensures.words)
